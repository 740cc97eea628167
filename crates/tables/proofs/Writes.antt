-- Octets written behind others, and what stands there then.
use Rattle.std.proofs.Common.{◌≡◌, ℕ, ◌+◌, ◌-◌, ◌≤◌, List, length, take, drop, Some, None, Option, IfSome, sym, refl, ap, ◌∙◌, arith, length-take-le}
use borrow.Rule.Slice.PartMut.{put_mid}
use Rattle.std.proofs.Math.Seq.{paste}
use Rattle.std.proofs.lemmas.List.{append_assoc, drop-take, drop_at, take_at}
use Rattle.tables.specs.Layout.{cut}
use Rattle.std.proofs.lemmas.Slice.{take-put_mid, take-put_mid_below}

-- What stands before the place, and what stands at it.
pub put-before : (xs ys : List ℕ) (at k e n : ℕ) → e + n ≤ at → at ≤ length xs → take n (drop e (put_mid at k xs ys)) ≡ take n (drop e xs)
put-before xs ys at k e n h l =
    sym (drop-take e n (put_mid at k xs ys)) ∙ ap (drop e) (take-put_mid_below at k xs ys (e + n) h l) ∙ drop-take e n xs

pub put-here : (xs ys : List ℕ) (at k : ℕ) → at ≤ length xs → take (length ys) (drop at (put_mid at k xs ys)) ≡ ys
put-here xs ys at k l =
    sym (drop-take at (length ys) (put_mid at k xs ys)) ∙ ap (drop at) (take-put_mid at k xs ys (at + length ys) refl l) ∙ drop_at (take at xs) ys at (length-take-le at xs l)

pub pasted_here : (xs ts : List ℕ) (at n : ℕ) → at ≤ length xs → n ≤ length ts → take n (drop at (paste xs at ts n)) ≡ take n ts
pasted_here xs ts at n l h =
    ap (take n) (ap (drop at) (append_assoc (take at xs) (take n ts) (drop (at + n) xs)) ∙ drop_at (take at xs) _ at (length-take-le at xs l))
    ∙ take_at (take n ts) _ n (length-take-le n ts h)

-- A value behind a name that stands at e.
pub appended :
    (o : Option (List ℕ)) (xs ys value : List ℕ) (e e' m : ℕ) → length xs ≡ 8192 → e ≡ e' → IfSome o (λ n. e' + (length n + length value) ≤ 8192) → IfSome o (λ n. (m ≡ e + length n) × (take (length n) (drop e xs) ≡ n)) → ys ≡ value → IfSome o (λ n. cut (put_mid m (m + length value - m) xs ys) e (length n) (length value) ≡ (n, value))
appended None xs ys value e e' m l q f h v = tt
appended (Some n) xs ys value e e' m l q f h v =
    let k : ℕ = m + length value - m in
    let inside : m ≤ length xs = omega (arith, f, h.0) in
    let one = put-before xs ys m k e (length n) (omega (arith, h.0)) inside ∙ h.1 in
    let two : take (length value) (drop m (put_mid m k xs ys)) ≡ value = ap (λ (zs : List ℕ). take (length zs) (drop m (put_mid m k xs ys))) (sym v) ∙ put-here xs ys m k inside ∙ v in
    (λ j. (one j, two' (sym h.0) two j))
  where
    two' : {p : ℕ} → p ≡ m → take (length value) (drop m (put_mid m (m + length value - m) xs ys)) ≡ value → take (length value) (drop p (put_mid m (m + length value - m) xs ys)) ≡ value
    two' s t = ap (λ p. take (length value) (drop p (put_mid m (m + length value - m) xs ys))) s ∙ t
