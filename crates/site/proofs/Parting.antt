-- Parts of a row, and parts of parts.
use Rattle.std.proofs.Common.{◌≡◌, ℕ, ◌+◌, ◌-◌, ◌<◌, ◌≤◌, List, length, take, drop, sym, ap, ◌∙◌, ⊎_elim, arith, length-drop, length-take}
use Rattle.std.proofs.lemmas.List.{take-take, drop-drop, drop-take}
use Rattle.std.proofs.lemmas.Bool.{cases_lt}
use Rattle.site.specs.declared.span.Span.{Span}
use Rattle.site.specs.Spans.{within}

-- A part of a span is a part of the row.
pub part_part : (row : List ℕ) (start count offset r : ℕ) → r ≤ count - offset → take r (drop offset (take count (drop start row))) ≡ take r (drop (start + offset) row)
part_part row start count offset r inside = ⊎_elim past reach (cases_lt count offset)
  where
    past : count < offset → take r (drop offset (take count (drop start row))) ≡ take r (drop (start + offset) row)
    past less = let none : r ≡ 0 = omega arith in ap (λ n. take n (drop offset (take count (drop start row)))) none ∙ sym (ap (λ n. take n (drop (start + offset) row)) none)

    reach : offset ≤ count → take r (drop offset (take count (drop start row))) ≡ take r (drop (start + offset) row)
    reach low =
        ap (λ m. take r (drop offset (take m (drop start row)))) (omega arith)
        ∙ ap (take r) (drop-take offset (count - offset) (drop start row))
        ∙ take-take r (count - offset) (drop offset (drop start row)) inside
        ∙ ap (take r) (drop-drop offset start row)

-- A span has at most as many octets as it counts.
pub within_short : (span : Span) (row : List ℕ) → length (within span row) ≤ span.count
within_short span row = simp (length-take, length-drop) (omega arith)
