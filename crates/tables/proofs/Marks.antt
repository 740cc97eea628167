-- The marks of spans, as entries come and go.
use Rattle.std.proofs.Common.{◌≡◌, ℕ, suc, ◌+◌, ◌-◌, ◌%◌, ◌<◌, ◌≤◌, List, [], ◌∷◌, ◌++◌, slice_get, Some, sym, ap, ◌∙◌, arith}
use Rattle.std.proofs.lemmas.List.{get_or_append_left, take-append-le, length-append}
use Rattle.std.proofs.lemmas.Option.{get_or_from_slice_get, slice_get_within}
use Rattle.tables.specs.declared.span.Span.{Span}
use Rattle.tables.specs.Layout.{Marked, begins, space}
use Rattle.tables.specs.Rings.{blank}

-- The oldest leaves.
pub marked-oldest : (base e : ℕ) (ss : List Span) (s : Span) → Marked base e (ss ++ s ∷ []) → Marked base e ss
marked-oldest base e ss s m i h =
    let long = length-append ss (s ∷ []) in
    let one = get_or_append_left ss (s ∷ []) blank i h in
    let two = take-append-le (suc i) ss (s ∷ []) h in
    ap (λ (x : Span). x.mark) (sym one) ∙ m i (omega (arith, long)) ∙ ap (λ (xs : List Span). (base + (e - space xs)) % 65536) two

-- Where a mark points.
pub mark_points : (base e i : ℕ) (ss : List Span) (s : Span) → slice_get ss i ≡ Some s → Marked base e ss → base < 65536 → e ≤ 8192 → (s.mark + (65536 - base)) % 65536 ≡ begins e ss i
mark_points base e i ss s h m b l =
    let is = ap (λ (x : Span). x.mark) (get_or_from_slice_get ss i s blank h) in
    omega (arith, is, m i (slice_get_within ss i s h))
