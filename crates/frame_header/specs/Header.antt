-- The nine octets before every payload: length (24 bits), type (8), flags (8), one ignored bit, stream (31).
use Rattle.std.specs.Prelude.{ℕ, List, [], ◌∷◌, ◌++◌, Option, slice_index}
use Rattle.frame_header.specs.declared.header.Header.{Header}
use Rattle.frame_header.specs.Codes.{kind_of, kind_number}
use Rattle.frame_header.specs.Octets.{number24, number31, octets24, octets31, split_front}

-- what the first nine octets say
abbrev pub header_of : List ℕ → Header
header_of xs = record {
  length = number24 (slice_index xs 0) (slice_index xs 1) (slice_index xs 2);
  kind = kind_of (slice_index xs 3);
  flags = record { bits = slice_index xs 4 };
  stream = number31 (slice_index xs 5) (slice_index xs 6) (slice_index xs 7) (slice_index xs 8);
}

-- the header and what stands behind it, if nine octets are given
abbrev pub split_header : List ℕ → Option (Header × List ℕ)
split_header xs = split_front 9 header_of xs

-- a header as octets
abbrev pub header_octets : Header → List ℕ
header_octets h = octets24 h.length ++ (kind_number h.kind ∷ h.flags.bits ∷ []) ++ octets31 h.stream
