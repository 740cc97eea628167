-- Numbers as octets, the highest octet first.
use Rattle.std.specs.Prelude.{ℕ, ◌+◌, ◌*◌, ◌/◌, ◌%◌, cond, List, [], ◌∷◌, length, drop, Some, None, Option, nat_lt, slice_index}

-- the number that octets stand for
abbrev pub number16 : ℕ → ℕ → ℕ
number16 a b = a * 256 + b

abbrev pub number24 : ℕ → ℕ → ℕ → ℕ
number24 a b c = a * 65536 + b * 256 + c

abbrev pub number32 : ℕ → ℕ → ℕ → ℕ → ℕ
number32 a b c d = a * 16777216 + b * 65536 + c * 256 + d

-- one ignored bit, then 31 bits
abbrev pub number31 : ℕ → ℕ → ℕ → ℕ → ℕ
number31 a b c d = number32 a b c d % 2147483648

abbrev pub number31_of : List ℕ → ℕ
number31_of xs = number31 (slice_index xs 0) (slice_index xs 1) (slice_index xs 2) (slice_index xs 3)

-- the octets that stand for a number
abbrev pub octets16 : ℕ → List ℕ
octets16 n = n / 256 % 256 ∷ n % 256 ∷ []

abbrev pub octets24 : ℕ → List ℕ
octets24 n = n / 65536 % 256 ∷ n / 256 % 256 ∷ n % 256 ∷ []

abbrev pub octets32 : ℕ → List ℕ
octets32 n = n / 16777216 % 256 ∷ n / 65536 % 256 ∷ n / 256 % 256 ∷ n % 256 ∷ []

-- the ignored bit is written as 0
abbrev pub octets31 : ℕ → List ℕ
octets31 n = octets32 (n % 2147483648)

-- what the first n octets stand for and the octets behind them; none if there are fewer
abbrev pub split_front : {A : Type 0} → ℕ → (List ℕ → A) → List ℕ → Option (A × List ℕ)
split_front n value xs = cond (nat_lt (length xs) n) None (Some (value xs, drop n xs))
