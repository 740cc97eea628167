-- What is told of octets: how many they are, the first, the last, and a checksum.
use Rattle.std.specs.Prelude.{◌≡◌, ℕ, ◌+◌, ◌-◌, ◌*◌, ◌%◌, ◌≤◌, List, length, take, drop, fold, slice_get}
use Rattle.std.specs.Option.{option_or}
use Rattle.slices.specs.declared.survey.Survey.{Survey}
use Rattle.slices.specs.declared.survey.Tally.{Tally}

-- The two sums of Adler-32: of the octets, from 1 on, and of the first sum after each octet, from 0 on; both modulo 65521.
abbrev pub adler_step : ℕ × ℕ → ℕ → ℕ × ℕ
adler_step s x = ((s.0 + x) % 65521, (s.1 + (s.0 + x) % 65521) % 65521)

unfoldable pub adler_sums : List ℕ → ℕ × ℕ
adler_sums octets = fold adler_step (1, 0) octets

-- What is known of octets while they are read.
abbrev pub tally_of : List ℕ → Tally
tally_of octets =
    record { count = length octets; first = slice_get octets 0; last = slice_get octets (length octets - 1); sums = adler_sums octets }

-- The tally of what was read before and of a piece.
abbrev pub joined : Tally → List ℕ → Tally
joined t piece =
    record {
      count = t.count + length piece;
      first = option_or t.first (slice_get piece 0);
      last = option_or (slice_get piece (length piece - 1)) t.last;
      sums = fold adler_step t.sums piece;
    }

-- What is told at the end of a tally: the checksum joins the two sums.
abbrev pub closed : Tally → Survey
closed t = record { count = t.count; first = t.first; last = t.last; checksum = t.sums.1 * 65536 + t.sums.0 }

-- What is told of octets. The checksum is Adler-32.
abbrev pub survey_of : List ℕ → Survey
survey_of octets = closed (tally_of octets)

-- The tally of the front of what is held from the offset on.
pub record ReadTo (held : List ℕ) (offset : ℕ) (tally : Tally) : Type 0 where
  pub inside : tally.count ≤ length held - offset
  pub items : tally ≡ tally_of (take tally.count (drop offset held))
