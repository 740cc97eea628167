-- Runs of picks over rows of offers, and the law that every run keeps.
use Rattle.std.specs.Prelude.{◌≡◌, ℕ, ◌+◌, ◌<◌, ◌≤◌, cond, List, [], ◌∷◌, length, take, drop, Some, sum_by, ◌==◌, ◌≢◌, slice_index_or}
use Rattle.std.specs.List.{AllByRecursion}
use Rattle.scheduler.specs.declared.offer.Offer.{Offer}
use Rattle.scheduler.specs.declared.pick.Pick.{Pick}
use Rattle.scheduler.specs.declared.pick.Stop.{Stop}
use Rattle.scheduler.specs.declared.pick.Stop.TheVariants.{Spent, Full, Idle}
use Rattle.scheduler.specs.Offers.{charge_at, Offering, Quiet}
use Rattle.scheduler.specs.Fair.{Fair}

-- The picks lead from the state s to the state t, one for each row, each as the meaning has it and at its charge.
abbrev pub Ran : {S : Type 0} → (S → ℕ) → (S → ℕ → ℕ → ℕ) → S → List (List Offer) → List Pick → S → Type 0
Ran lag debt s [] [] t = t ≡ s
Ran lag debt s [] (p ∷ picks) t = ⊥
Ran lag debt s (os ∷ rows) [] t = ⊥
Ran {S} lag debt s (os ∷ rows) (p ∷ picks) t =
    (u : S) × Fair lag debt os s u (Some p.place) × (p.charge ≡ charge_at os p.place) × Ran lag debt u rows picks t

-- What place k is charged by the picks.
abbrev pub charged : List Pick → ℕ → ℕ
charged picks k = sum_by (λ p. cond (p.place == k) p.charge 0) picks

-- Place i offers in each row.
abbrev pub Always : ℕ → List (List Offer) → Type 0
Always i rows = AllByRecursion (λ os. Offering os i) rows

-- Over any n picks on end, after the first m: where place i offered at each, no other place is charged more than i plus the lag.
abbrev pub RunLaw : ℕ → List (List Offer) → List Pick → Type 0
RunLaw lag rows picks =
    (m n i j : ℕ) → i < 16 → j < 16 → (i ≢ j) → Always i (take n (drop m rows))
    → charged (take n (drop m picks)) j ≤ charged (take n (drop m picks)) i + lag

-- Why a run stopped after n picks: no row is left; or there is no room for a further pick; or the next row offers nothing.
abbrev pub Stopped : Stop → ℕ → List (List Offer) → ℕ → Type 0
Stopped Spent n rows room = n ≡ length rows
Stopped Full n rows room = (n < length rows) × (n ≡ room)
Stopped Idle n rows room = (n < length rows) × (n < room) × Quiet (slice_index_or rows n [])
