-- A text that is cut at a mark, one octet after another from its end.
use Rattle.std.proofs.Common.{◌≡◌, ℕ, zero, suc, ◌+◌, ◌<◌, ◌≤◌, List, length, get_or, take, drop, Some, None, sym, refl, ap, ◌∙◌, ⊎_elim, add-one, arith}
use Rattle.std.proofs.lemmas.Bool.{cases_eq, cond-false, cond-true, eq-eqb, ne_eqb}
use Rattle.slices.specs.Cuts.{Absent, cut_below, cut_last}

cut_here : (mark : ℕ) (text : List ℕ) (m : ℕ) → get_or text m 0 ≡ mark → cut_below mark text (m + 1) ≡ Some (take m text, drop (m + 1) text)
unfolding cut_below
cut_here mark text m here = rw add-one (cond-true _ _ _ (eq-eqb _ _ here))

cut_before : (mark : ℕ) (text : List ℕ) (m : ℕ) → (get_or text m 0 ≡ mark → ⊥) → cut_below mark text (m + 1) ≡ cut_below mark text m
unfolding cut_below
cut_before mark text m other = rw add-one (cond-false _ _ _ (ne_eqb _ _ other))

cut_none : (mark : ℕ) (text : List ℕ) → cut_below mark text 0 ≡ None
unfolding cut_below
cut_none mark text = refl

-- The last mark of the first m octets cuts the text.
cut_below_at : (mark : ℕ) (text : List ℕ) (n m : ℕ) → n < m → get_or text n 0 ≡ mark → ((k : ℕ) → n + 1 ≤ k → k < m → get_or text k 0 ≡ mark → ⊥)
    → cut_below mark text m ≡ Some (take n text, drop (n + 1) text)
cut_below_at mark text n zero low here after = absurd (omega arith)
cut_below_at mark text n (suc m) low here after =
    ap (cut_below mark text) (sym (add-one m))
    ∙ ⊎_elim
    (λ same. ap (λ k. cut_below mark text (k + 1)) (sym same) ∙ cut_here mark text n here)
    (λ apart. let less : n < m = omega arith in cut_before mark text m (after m (omega arith) (omega arith)) ∙ cut_below_at mark text n m less here (λ k high below. after k high (omega arith)))
    (cases_eq n m)

pub cut_at : (mark : ℕ) (text : List ℕ) (n : ℕ) → n < length text → get_or text n 0 ≡ mark → Absent mark text (n + 1)
    → cut_last mark text ≡ Some (take n text, drop (n + 1) text)
cut_at mark text n low here after = cut_below_at mark text n (length text) low here after

cut_empty : (mark : ℕ) (text : List ℕ) (m : ℕ) → ((k : ℕ) → 0 ≤ k → k < m → get_or text k 0 ≡ mark → ⊥) → cut_below mark text m ≡ None
cut_empty mark text zero absent = cut_none mark text
cut_empty mark text (suc m) absent =
    ap (cut_below mark text) (sym (add-one m)) ∙ cut_before mark text m (absent m (omega arith) (omega arith)) ∙ cut_empty mark text m (λ k low below. absent k low (omega arith))

pub cut_nowhere : (mark : ℕ) (text : List ℕ) → Absent mark text 0 → cut_last mark text ≡ None
cut_nowhere mark text absent = cut_empty mark text (length text) absent
