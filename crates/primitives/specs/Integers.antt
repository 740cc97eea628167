-- Integers behind a prefix of N bits (RFC 7541, section 5.1), held to four further octets.
use Rattle.std.specs.Prelude.{◌≡◌, ℕ, ◌+◌, ◌-◌, ◌*◌, ◌%◌, ◌^◌, cond, List, [], ◌∷◌, take, Some, None, nat_lt}
use Rattle.primitives.specs.Reads.{Reading}

-- The further octets, 7 bits each, the lowest first: the top bit says that one more follows.
-- `value` is the sum so far, `weight` what the next bits count, `used` the octets read so far.
abbrev pub further : ℕ → ℕ → ℕ → List ℕ → Reading ℕ
further value weight used [] = None
further value weight used (b ∷ xs) =
    cond (nat_lt b 128)
    (Some (value + b * weight, used + 1))
    (further (value + (b - 128) * weight) (weight * 128) (used + 1) xs)

-- `size` is 2 ^ N: the prefix is the value, unless it is all ones; then at most four further octets add to it.
abbrev pub integer_below : ℕ → List ℕ → Reading ℕ
integer_below size [] = None
integer_below size (a ∷ xs) =
    cond (nat_lt (a % size) (size - 1)) (Some (a % size, 1)) (further (a % size) 1 1 (take 4 xs))

-- The integer whose prefix is the lowest `bits` bits of the first octet.
abbrev pub integer_of : ℕ → List ℕ → Reading ℕ
integer_of bits xs = integer_below (2 ^ bits) xs

-- Worked values: with a prefix of 5 bits, 0x1f9a0a is 1337 and 0x0a is 10.
abbrev pub WorkedIntegers : Type 0
WorkedIntegers =
    (integer_of 5 (0x1f ∷ 0x9a ∷ 0x0a ∷ []) ≡ Some (1337, 3))
    × (integer_of 5 (0x0a ∷ []) ≡ Some (10, 1))
