-- What a slice writes of what the site below holds.
use Rattle.std.specs.Prelude.{◌≡◌, ℕ, ◌+◌, ◌-◌, ◌≤◌, min, List, ◌++◌, length, take, drop, Some, None, Option}
use Rattle.std.proofs.Common.{sym, ap, ◌∙◌, append_assoc, ⊎_elim, arith, length-take, length-drop}
use Rattle.std.proofs.lemmas.List.{take-append-drop, drop_all, drop-append-le}
use Rattle.std.proofs.lemmas.Bool.{cases_lt}
use Rattle.site.specs.declared.span.Span.{Span}
use Rattle.site.specs.Sites.{Filled, count_of, octets_of}
use Rattle.site.specs.Spans.{within}
use Rattle.site.proofs.Parting.{part_part}

front_rest : (r m : ℕ) (before : List ℕ) → r ≤ m → m ≤ length before → drop r (take m before) ++ drop m before ≡ drop r before
front_rest r m before low fits =
    sym (drop-append-le r (take m before) (drop m before) (simp length-take (omega arith))) ∙ ap (drop r) (take-append-drop m before)

-- An offset past all numbers of 64 bits is past the end of what is held.
far : (row : List ℕ) (at sum : ℕ) → length row ≤ 2147483647 → at ≡ min sum 18446744073709551615 → drop at row ≡ drop sum row
far row at sum short is =
    ⊎_elim (λ less. ap (λ m. drop m row) (omega arith)) (λ more. drop_all at row (omega arith) ∙ sym (drop_all sum row (omega arith))) (cases_lt sum 18446744073709551616)

-- A count that is the least of what the buffer, the range and the row have.
least : (r b n count start offset rows at : ℕ) → rows ≤ 2147483647 → at ≡ min (start + offset) 18446744073709551615 → n ≡ min b (count - offset) → r ≡ min n (rows - at)
    → r ≡ min b (min count (rows - start) - offset)
least r b n count start offset rows at short reach is answer = answer ∙ ap (min n) past ∙ (let e = is in omega arith)
  where
    past : rows - at ≡ rows - (start + offset)
    past = omega arith

-- A buffer whose front was filled from the row at the span's start and the offset was filled from the span.
pub fills_part : (span : Span) (row : List ℕ) (offset n at r : ℕ) (before front : List ℕ)
    → length row ≤ 2147483647 → at ≡ min (span.start + offset) 18446744073709551615 → n ≡ min (length before) (span.count - offset)
    → Filled row at (take n before) front r
    → Filled (within span row) offset before (front ++ drop n before) r
fills_part span row offset n at r before front short reach is filled =
    record {
      value = simp (length-take, length-drop) (least r (length before) n span.count span.start offset (length row) at short reach is (counted ∙ ap (λ m. min m (length row - at)) (omega arith)));
      items =
          ap (λ xs. xs ++ drop n before) filled.items
          ∙ append_assoc (take r (drop at row)) (drop r (take n before)) (drop n before)
          ∙ ap (λ xs. take r (drop at row) ++ xs) (front_rest r n before (omega (arith, counted)) (omega arith))
          ∙ ap (λ xs. take r xs ++ drop r before) (far row at (span.start + offset) short reach)
          ∙ ap (λ xs. xs ++ drop r before) (sym (part_part row span.start span.count offset r (omega (arith, counted))));
    }
  where
    counted : r ≡ min (min n (length before)) (length row - at)
    counted = simp length-take at filled.value

-- What was counted and is held is what was found.
pub counted : (found : Option (List ℕ)) (held : List ℕ) (count : ℕ) → Some count ≡ count_of found → held ≡ octets_of found → (found ≡ Some held) × (length held ≡ count)
counted None held count is holds = absurd cc
counted (Some octets) held count is holds = (cc, cc)
