-- A text that was read octet by octet.
use Rattle.std.proofs.Common.{◌≡◌, ℕ, List, length, sym, ap}
use Rattle.std.proofs.lemmas.Slice.Eq.{HasBytesAt, text_from_reads}

-- What a definition says of it is what it says of the text whose octets were met.
pub as_read : {A : Type 0} (says : List ℕ → A) (octets text : List ℕ) → length octets ≡ length text → HasBytesAt octets 0 text → says text ≡ says octets
as_read says octets text same met = ap says (sym (text_from_reads octets text same met))
