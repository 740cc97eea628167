-- The rows that spans cut from octets: their number, their cost, where one is, and over which octets they are the same.
use Rattle.std.proofs.Common.{◌≡◌, ℕ, zero, suc, ◌+◌, ◌-◌, ◌*◌, ◌≤◌, List, [], ◌∷◌, ◌++◌, length, slice_get, take, drop, Some, option_map, sym, refl, ap, ◌∙◌, arith, length-drop, length-take-le, take-take}
use Rattle.std.proofs.lemmas.List.{drop-drop, drop-take}
use Rattle.std.proofs.lemmas.List.Sums.{sum_by-cons, sum_by-take-le}
use Rattle.tables.specs.declared.span.Span.{Span}
use Rattle.tables.specs.DynamicTable.{total}
use Rattle.tables.specs.Layout.{begins, cut, extent, rows, space}
use Rattle.tables.specs.declared.memory.Memory.{Memory}
use Rattle.tables.specs.Memories.{Stands, fields_of}
use Rattle.tables.specs.StaticTable.{Field}

pub length-rows : (xs : List ℕ) (e : ℕ) (ss : List Span) → length (rows xs e ss) ≡ length ss
length-rows xs e [] = refl
length-rows xs e (s ∷ ss) = ap suc (length-rows xs (e - extent s) ss)

pub total-rows : (xs : List ℕ) (e : ℕ) (ss : List Span) → space ss ≤ e → e ≤ length xs → total (rows xs e ss) ≡ space ss + 32 * length ss
total-rows xs e [] h l = refl
total-rows xs e (s ∷ ss) h l =
    let sum = sum_by-cons extent s ss in
    let a = length-take-le s.name (drop (e - extent s) xs) (omega (arith, length-drop (e - extent s) xs, sum)) in
    let b = length-take-le s.value (drop (e - extent s + s.name) xs) (omega (arith, length-drop (e - extent s + s.name) xs, sum)) in
    omega (arith, total-rows xs (e - extent s) ss (omega (arith, sum)) (omega arith), sum, a, b)

-- The rows without the oldest span are all but the oldest.
pub rows-oldest : (xs : List ℕ) (e : ℕ) (ss : List Span) (s : Span) → (f : Field) × (rows xs e (ss ++ s ∷ []) ≡ rows xs e ss ++ f ∷ [])
rows-oldest xs e [] s = (cut xs (e - extent s) s.name s.value, refl)
rows-oldest xs e (t ∷ ss) s =
    let r = rows-oldest xs (e - extent t) ss s in
    (r.0, ap (λ (fs : List Field). cut xs (e - extent t) t.name t.value ∷ fs) r.1)

-- Octets that agree on l places from s and from t on.
module _ (xs ys : List ℕ) (s t l : ℕ) (same : take l (drop s xs) ≡ take l (drop t ys)) where
  part : (zs : List ℕ) (s a n : ℕ) → a + n ≤ l → take n (drop (s + a) zs) ≡ take n (drop a (take l (drop s zs)))
  part zs s a n h =
      let m : l ≡ a + (l - a) = omega arith in
      ap (take n) (sym (drop-drop a s zs))
      ∙ sym (take-take n (l - a) (drop a (drop s zs)) (omega arith))
      ∙ ap (take n) (sym (drop-take a (l - a) (drop s zs)))
      ∙ ap (λ k. take n (drop a (take k (drop s zs)))) (sym m)

  both : (a n : ℕ) → a + n ≤ l → take n (drop (s + a) xs) ≡ take n (drop (t + a) ys)
  both a n h = part xs s a n h ∙ ap (λ (zs : List ℕ). take n (drop a zs)) same ∙ sym (part ys t a n h)

  cut_same : (a n v : ℕ) → a + (n + v) ≤ l → cut xs (s + a) n v ≡ cut ys (t + a) n v
  cut_same a n v h =
      let one = both a n (omega arith) in
      let two = both (a + n) v (omega arith) in
      let p : s + a + n ≡ s + (a + n) = omega arith in
      let q : t + a + n ≡ t + (a + n) = omega arith in
      cc (one, two, p, q)

  pub rows_same : (a : ℕ) (ss : List Span) → a ≤ l → space ss ≤ a → rows xs (s + a) ss ≡ rows ys (t + a) ss
  rows_same a [] h k = refl
  rows_same a (x ∷ ss) h k =
      let sum = sum_by-cons extent x ss in
      let p : s + a - extent x ≡ s + (a - extent x) = omega (arith, sum) in
      let q : t + a - extent x ≡ t + (a - extent x) = omega (arith, sum) in
      let c = cut_same (a - extent x) x.name x.value (omega (arith, sum)) in
      let ih = rows_same (a - extent x) ss (omega arith) (omega (arith, sum)) in
      (λ j. cut xs (p j) x.name x.value ∷ rows xs (p j) ss) ∙ (λ j. c j ∷ ih j) ∙ sym (λ j. cut ys (q j) x.name x.value ∷ rows ys (q j) ss)

-- Lookup.
pub row_at : (xs : List ℕ) (e : ℕ) (ss : List Span) (i : ℕ) → slice_get (rows xs e ss) i ≡ option_map (λ s. cut xs (begins e ss i) s.name s.value) (slice_get ss i)
row_at xs e [] i = refl
row_at xs e (s ∷ ss) zero = let k : extent s ≡ space (s ∷ []) = omega (arith, sum_by-cons extent s []) in ap (λ n. Some (cut xs (e - n) s.name s.value)) k
row_at xs e (s ∷ ss) (suc i) =
    let k : e - extent s - space (take (suc i) ss) ≡ e - space (s ∷ take (suc i) ss) = omega (arith, sum_by-cons extent s (take (suc i) ss)) in
    row_at xs (e - extent s) ss i ∙ ap (λ n. option_map (λ (x : Span). cut xs n x.name x.value) (slice_get ss i)) k

-- The octets of an entry lie before the end.
pub row_within : (e : ℕ) (ss : List Span) (i : ℕ) (s : Span) → slice_get ss i ≡ Some s → space ss ≤ e → begins e ss i + extent s ≤ e
row_within e [] i s h l = cc
row_within e (t ∷ ss) zero s h l = let k : t ≡ s = cc in omega (arith, sum_by-cons extent t [], sum_by-cons extent t ss, ap extent k)
row_within e (t ∷ ss) (suc i) s h l =
    omega (arith, row_within (e - extent t) ss i s h (omega (arith, sum_by-cons extent t ss)), sum_by-cons extent t ss, sum_by-cons extent t (take (suc i) ss), sum_by-take-le extent ss (suc i))

-- What stands behind the entries does not matter.
pub fields_stand : (a b : Memory) → Stands a b → fields_of b ≡ fields_of a
fields_stand a b h =
    let z : 0 + a.end ≡ a.end = omega arith in
    let same = rows_same b.octets a.octets 0 0 a.end h.front a.end a.spans (omega arith) (omega (arith, a.filled)) in
    (λ j. rows b.octets (h.end j) (h.spans j)) ∙ ap (λ n. rows b.octets n a.spans) (sym z) ∙ same ∙ ap (λ n. rows a.octets n a.spans) z
