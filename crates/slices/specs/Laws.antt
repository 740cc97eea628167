-- What the laws of a site rest on: parts of what is bounded are bounded.
use Rattle.std.specs.Prelude.{◌≡◌, ℕ, ◌+◌, ◌-◌, ◌≤◌, List, [], length, take, drop, Some, None, Option, nat_lt}
use Rattle.std.proofs.Common.{ap, arith, length-take, length-drop}
use Rattle.std.proofs.lemmas.Bool.{cond_both}
use Rattle.site.specs.declared.span.Span.{Span}
use Rattle.site.specs.Laws.{cap_low, no_span}
use Rattle.site.specs.Sites.{Bounded}
use Rattle.site.specs.Spans.{span_at, within}
use Rattle.site.proofs.Parting.{within_short}
use Rattle.slices.specs.declared.range.Range.{Range}
use Rattle.slices.specs.Slices.{asked_of, cut_out, named_by, part_of, slice_held, slice_named}

-- A part of what is bounded is bounded.
cut_bounded : (range : Range) (found : Option (List ℕ)) → Bounded found → Bounded (cut_out range found)
cut_bounded range None low = tt
cut_bounded range (Some octets) low =
    cond_both (nat_lt range.first (length octets)) (Some (take (range.last + 1 - range.first) (drop range.first octets))) None Bounded
    (λ _. simp (length-take, length-drop) (omega arith)) (λ _. tt)

part_bounded : (range : Option Range) (found : Option (List ℕ)) → Bounded found → Bounded (part_of range found)
part_bounded None found low = low
part_bounded (Some range) found low = cut_bounded range found low

by_bounded : (below : List ℕ → Option (List ℕ)) → ((p : List ℕ) → Bounded (below p)) → (asked : Option (List ℕ × Option Range)) → Bounded (named_by below asked)
by_bounded below low None = tt
by_bounded below low (Some asked) = part_bounded asked.1 (below asked.0) (low asked.0)

pub slice_bounded : (below : List ℕ → Option (List ℕ)) (path : List ℕ) → ((p : List ℕ) → Bounded (below p)) → Bounded (slice_named below path)
slice_bounded below path low = by_bounded below low (asked_of path)

-- A place of a slice holds at most as many octets as its range counts.
pub slice_held_short : (below : ℕ → List ℕ) (ranges : List Span) (place : ℕ) → length (slice_held below ranges place) ≤ 2147483647
slice_held_short below ranges place = omega (arith, within_short (span_at ranges place) (below place), cap_low ranges place)

-- Beyond the sixteen places a slice holds nothing.
pub slice_held_beyond : (below : ℕ → List ℕ) (ranges : List Span) (place : ℕ) → 16 ≤ place → slice_held below ranges place ≡ []
slice_held_beyond below ranges place high = ap (λ (span : Span). within span (below place)) (no_span place ranges high)
