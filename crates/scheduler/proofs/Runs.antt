-- Every run keeps the run law, by the meaning alone.
use Rattle.std.proofs.Common.{◌≡◌, ℕ, zero, suc, ◌+◌, ◌<◌, ◌≤◌, cond, eqb, List, [], ◌∷◌, ◌++◌, take, drop, Some, refl, ap, ◌∙◌, subst, arith}
use Rattle.std.proofs.lemmas.List.Sums.{sum_by-cons}
use Rattle.scheduler.specs.declared.offer.Offer.{Offer}
use Rattle.scheduler.specs.declared.pick.Pick.{Pick}
use Rattle.scheduler.specs.Offers.{charge_at}
use Rattle.scheduler.specs.Fair.{Fair}
use Rattle.scheduler.specs.Runs.{Ran, charged, Always, RunLaw}

module _ {S : Type 0} (lag : S → ℕ) (debt : S → ℕ → ℕ → ℕ) where
  -- One pick more.
  pub ran-push : (s t u : S) (rows : List (List Offer)) (picks : List Pick) (os : List Offer) (p : Pick)
      → Ran lag debt s rows picks t → Fair lag debt os t u (Some p.place) → p.charge ≡ charge_at os p.place → Ran lag debt s (rows ++ (os ∷ [])) (picks ++ (p ∷ [])) u
  ran-push s t u [] [] os p r f e = (u, subst (λ z. Fair lag debt os z u (Some p.place)) r f, e, refl)
  ran-push s t u [] (q ∷ picks) os p r f e = absurd r
  ran-push s t u (row ∷ rows) [] os p r f e = absurd r
  ran-push s t u (row ∷ rows) (q ∷ picks) os p r f e = (r.0, r.1, r.2, ran-push r.0 t u rows picks os p r.3 f e)

  ran-lag : (s t : S) (rows : List (List Offer)) (picks : List Pick) → Ran lag debt s rows picks t → lag t ≡ lag s
  ran-lag s t [] [] r = ap lag r
  ran-lag s t [] (p ∷ picks) r = absurd r
  ran-lag s t (os ∷ rows) [] r = absurd r
  ran-lag s t (os ∷ rows) (p ∷ picks) r = ran-lag r.0 t rows picks r.3 ∙ r.1.2

  -- By what a run takes j ahead of i, what j owes i has grown.
  pub ran-debt : (s t : S) (rows : List (List Offer)) (picks : List Pick) → Ran lag debt s rows picks t → (i j : ℕ) → i < 16 → j < 16 → (i ≡ j → ⊥) → Always i rows
      → debt s i j + charged picks j ≤ debt t i j + charged picks i
  ran-debt s t [] [] r i j hi hj ne off = omega (arith, ap (λ z. debt z i j) r)
  ran-debt s t [] (p ∷ picks) r i j hi hj ne off = absurd r
  ran-debt s t (os ∷ rows) [] r i j hi hj ne off = absurd r
  ran-debt s t (os ∷ rows) (p ∷ picks) r i j hi hj ne off =
      let head : (x : ℕ) → charged (p ∷ picks) x ≡ cond (eqb p.place x) p.charge 0 + charged picks x = λ x. sum_by-cons (λ q. cond (eqb q.place x) q.charge 0) p picks in
      let due : (x : ℕ) → cond (eqb p.place x) p.charge 0 ≡ cond (eqb p.place x) (charge_at os p.place) 0 = λ x. ap (λ z. cond (eqb p.place x) z 0) r.2 in
      omega (arith, head i, head j, due i, due j, r.1.3 i j hi hj ne off.0, ran-debt r.0 t rows picks r.3 i j hi hj ne off.1)

  -- A stretch of a run is a run.
  ran-drop : (m : ℕ) (s t : S) (rows : List (List Offer)) (picks : List Pick) → Ran lag debt s rows picks t → (u : S) × Ran lag debt u (drop m rows) (drop m picks) t × (lag u ≡ lag s)
  ran-drop zero s t rows picks r = (s, r, refl)
  ran-drop (suc m) s t [] [] r = (s, r, refl)
  ran-drop (suc m) s t [] (p ∷ picks) r = absurd r
  ran-drop (suc m) s t (os ∷ rows) [] r = absurd r
  ran-drop (suc m) s t (os ∷ rows) (p ∷ picks) r = let rest = ran-drop m r.0 t rows picks r.3 in (rest.0, rest.1, rest.2 ∙ r.1.2)

  ran-take : (n : ℕ) (s t : S) (rows : List (List Offer)) (picks : List Pick) → Ran lag debt s rows picks t → (u : S) × Ran lag debt s (take n rows) (take n picks) u
  ran-take zero s t rows picks r = (s, refl)
  ran-take (suc n) s t [] [] r = (s, refl)
  ran-take (suc n) s t [] (p ∷ picks) r = absurd r
  ran-take (suc n) s t (os ∷ rows) [] r = absurd r
  ran-take (suc n) s t (os ∷ rows) (p ∷ picks) r = let rest = ran-take n r.0 t rows picks r.3 in (rest.0, (r.0, r.1, r.2, rest.1))

  pub run-law : ((s : S) (i j : ℕ) → i < 16 → j < 16 → debt s i j ≤ lag s) → (s t : S) (rows : List (List Offer)) (picks : List Pick) → Ran lag debt s rows picks t → RunLaw (lag s) rows picks
  run-law bounded s t rows picks r m n i j hi hj ne off =
      let tail = ran-drop m s t rows picks r in
      let part = ran-take n tail.0 t (drop m rows) (drop m picks) tail.1 in
      omega (arith, ran-debt tail.0 part.0 (take n (drop m rows)) (take n (drop m picks)) part.1 i j hi hj ne off, bounded part.0 i j hi hj, ran-lag tail.0 part.0 (take n (drop m rows)) (take n (drop m picks)) part.1, tail.2)
