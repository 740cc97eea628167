-- The numbers that texts of octets write.
use Rattle.std.specs.Prelude.{ℕ, ◌+◌, ◌-◌, ◌*◌, Bool, cond, not, ◌&&◌, List, [], ◌∷◌, length, Some, None, Option, ◌==◌, nat_le, nat_lt, slice_index}

-- The digits 0 to 9 are the octets 48 to 57; any other octet is no digit.
abbrev pub digit_of : ℕ → Option ℕ
digit_of c = cond (nat_le 48 c && nat_le c 57) (Some (c - 48)) None

-- Each digit adds itself to ten times the value so far; any other octet makes the text no number.
unfoldable pub read_on : ℕ → List ℕ → Option ℕ
read_on value [] = Some value
read_on value (c ∷ cs) = elim (digit_of c) [ Some d ↦ read_on (value * 10 + d) cs | None ↦ None ]

-- More than one octet, the first of them the digit 0.
abbrev pub leading_zero : List ℕ → Bool
leading_zero text = nat_lt 1 (length text) && slice_index text 0 == 48

-- A number is written in 1 to 9 digits without leading zeros; 0 itself is one digit.
abbrev pub number_of : List ℕ → Option ℕ
number_of text = cond (nat_lt 0 (length text) && nat_le (length text) 9 && not (leading_zero text)) (read_on 0 text) None
