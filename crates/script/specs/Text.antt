-- Numbers and octets as a script writes them.
use Rattle.std.specs.Prelude.{ℕ, ◌+◌, ◌-◌, ◌*◌, ◌≤◌, cond, ◌&&◌, List, [], ◌∷◌, Some, None, codes, Option, Result, nat_le}
use Rattle.std.specs.Str.{bytes_eq}
use Rattle.std.specs.Result.{OkIff}
use Rattle.std.specs.Str.Parse.{IsNumeral, digits_value, without_leading_plus}

-- the answer is the number that the text writes in decimal, just where the text is a numeral and the number lies in the range
abbrev pub NumberWithin : {E : Type 0} → List ℕ → ℕ → ℕ → Result ℕ E → Type 0
NumberWithin text least most r =
    OkIff r (IsNumeral 10 (without_leading_plus text) × (least ≤ digits_value 10 (without_leading_plus text)) × (digits_value 10 (without_leading_plus text) ≤ most)) (digits_value 10 (without_leading_plus text))

-- the value of a hexadecimal digit of either case
abbrev pub nibble : ℕ → Option ℕ
nibble c =
    cond (nat_le 48 c && nat_le c 57) (Some (c - 48))
    (cond (nat_le 97 c && nat_le c 102) (Some (c - 87))
    (cond (nat_le 65 c && nat_le c 70) (Some (c - 55))
    None))

-- two digits are an octet, the higher one first
abbrev pub octet_of : Option ℕ → Option ℕ → Option ℕ
octet_of None low = None
octet_of (Some high) None = None
octet_of (Some high) (Some low) = Some (high * 16 + low)

-- an octet before others, if both are there
abbrev pub before : Option ℕ → Option (List ℕ) → Option (List ℕ)
before None rest = None
before (Some x) None = None
before (Some x) (Some xs) = Some (x ∷ xs)

-- the octets that pairs of digits stand for; none if a digit is left over or is no digit
unfoldable pub hex_octets : List ℕ → Option (List ℕ)
hex_octets [] = Some []
hex_octets (a ∷ []) = None
hex_octets (a ∷ b ∷ rest) = before (octet_of (nibble a) (nibble b)) (hex_octets rest)

-- `-` stands for no octets
abbrev pub word_octets : List ℕ → Option (List ℕ)
word_octets word = cond (bytes_eq word (codes "-")) (Some []) (hex_octets word)
