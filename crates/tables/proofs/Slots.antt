-- What the steps of a ring do to the spans that it holds.
use Rattle.std.proofs.Common.{◌≡◌, ℕ, zero, suc, ◌+◌, ◌%◌, ◌<◌, ◌≤◌, List, [], ◌∷◌, ◌++◌, length, get_or, slice_get, set, Some, refl, ap, arith, get_or-set_other, get_or-set_same}
use Rattle.tables.specs.declared.span.Span.{Span}
use Rattle.tables.specs.Rings.{blank, held}

pub length-held : (ss : List Span) (f n : ℕ) → length (held ss f n) ≡ n
length-held ss f zero = refl
length-held ss f (suc n) = ap suc (length-held ss f n)

pub held_at : (ss : List Span) (f n i k : ℕ) → i + k + 1 ≡ n → slice_get (held ss f n) i ≡ Some (get_or ss ((f + k) % 128) blank)
held_at ss f zero i k h = absurd (omega arith)
held_at ss f (suc n) zero k h = let e : n ≡ k = omega arith in ap (λ m. Some (get_or ss ((f + m) % 128) blank)) e
held_at ss f (suc n) (suc i) k h = held_at ss f n i k (omega arith)

kept : (ss : List Span) (f c k : ℕ) (x : Span) → k ≤ c → c < 128 → held (set ss ((f + c) % 128) x) f k ≡ held ss f k
kept ss f c zero x h l = refl
kept ss f c (suc k) x h l =
    let e = get_or-set_other ss ((f + c) % 128) ((f + k) % 128) x blank (λ e. omega arith) in
    let ih = kept ss f c k x (omega arith) l in
    (λ j. e j ∷ ih j)

pub held-push : (ss : List Span) (f c : ℕ) (x : Span) → length ss ≡ 128 → c < 128 → held (set ss ((f + c) % 128) x) f (suc c) ≡ x ∷ held ss f c
held-push ss f c x h l =
    let e = get_or-set_same ss ((f + c) % 128) x blank (omega arith) in
    let ih = kept ss f c c x (omega arith) l in
    (λ j. e j ∷ ih j)

pub held-oldest : (ss : List Span) (f n : ℕ) → f < 128 → held ss f (suc n) ≡ held ss ((f + 1) % 128) n ++ get_or ss f blank ∷ []
held-oldest ss f zero h = let e : (f + 0) % 128 ≡ f = omega arith in ap (λ i. get_or ss i blank ∷ []) e
held-oldest ss f (suc n) h =
    let e : (f + suc n) % 128 ≡ ((f + 1) % 128 + n) % 128 = omega arith in
    let ih = held-oldest ss f n h in
    (λ j. get_or ss (e j) blank ∷ ih j)
