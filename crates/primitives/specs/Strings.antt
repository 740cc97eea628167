-- Strings: one bit that says Huffman coding, a length behind the other 7 bits, and that many octets.
use Rattle.std.specs.Prelude.{ℕ, ◌+◌, ◌-◌, cond, List, length, take, drop, Some, None, nat_lt, slice_index}
use Rattle.primitives.specs.Reads.{Reading}
use Rattle.primitives.specs.Integers.{integer_of}

-- The octets behind a length; there must be as many as it says.
abbrev pub string_behind : List ℕ → Reading ℕ → Reading (List ℕ)
string_behind xs None = None
string_behind xs (Some p) =
    cond (nat_lt (length xs - p.1) p.0) None (Some (take p.0 (drop p.1 xs), p.1 + p.0))

-- Huffman coding is refused: its bit is the top bit of the first octet.
abbrev pub string_of : List ℕ → Reading (List ℕ)
string_of xs = cond (nat_lt (slice_index xs 0) 128) (string_behind xs (integer_of 7 xs)) None
