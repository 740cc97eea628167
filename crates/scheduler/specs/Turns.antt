-- Turns of deficit round robin: between two turns of a place, every other place that keeps offering is reached.
use Rattle.std.specs.Prelude.{ℕ, ◌<◌, ◌≤◌, Bool, not, ◌&&◌, List, [], ◌∷◌, Some, None, count_by, Option, ◌==◌, ◌≢◌}
use Rattle.std.specs.List.{AllByRecursion}
use Rattle.scheduler.specs.declared.offer.Offer.{Offer}
use Rattle.scheduler.specs.Offers.{Offering}
use Rattle.scheduler.specs.Rounds.{covers, drr_pick, standing}

-- A pick: its place, and whether the round moved on to it, which begins a turn of that place.
pub record Turn : Type 0 where
  pub place : ℕ
  pub begun : Bool

abbrev pub counted : Option ℕ → Bool → List Turn → List Turn
counted None begun rest = rest
counted (Some k) begun rest = record { place = k; begun = begun } ∷ rest

-- The picks over rows of offers, from balances and a current place.
abbrev pub turns : List ℕ → ℕ → List (List Offer) → List Turn
turns bs c [] = []
turns bs c (os ∷ rows) =
    counted (drr_pick bs c os).0 (not (covers bs c os)) (turns (drr_pick bs c os).1 (standing c (drr_pick bs c os).0) rows)

-- How many turns of place k begin.
abbrev pub turns_of : ℕ → List Turn → ℕ
turns_of k ts = count_by (λ t. t.begun && t.place == k) ts

-- Place i has its turn. Over any rows at which another place j offers, i begins no more further turns than j does:
-- between two turns of i every other place that keeps offering is reached.
abbrev pub Reached : List ℕ → ℕ → Type 0
Reached bs i =
    (j : ℕ) (rows : List (List Offer)) → j < 16 → (i ≢ j) → AllByRecursion (λ os. Offering os j) rows
    → turns_of i (turns bs i rows) ≤ turns_of j (turns bs i rows)
