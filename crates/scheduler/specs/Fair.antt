-- The one meaning of every scheduler: what a pick keeps of the lag and of the debts between places.
use Rattle.std.specs.Prelude.{◌≡◌, ℕ, ◌+◌, ◌<◌, ◌≤◌, cond, List, Some, None, Option, ◌==◌, ◌≢◌}
use Rattle.scheduler.specs.declared.offer.Offer.{Offer}
use Rattle.scheduler.specs.Offers.{charge_at, Offering, Quiet}

-- What place p is charged by a pick of place k.
abbrev pub due : List Offer → ℕ → ℕ → ℕ
due os k p = cond (k == p) (charge_at os k) 0

-- A pick of place k: for each place i with an offer and each other place j, the debt (i, j) afterwards
-- is at least the one before, plus the charge if j was picked, minus it if i was.
abbrev pub Repaid : (ℕ → ℕ → ℕ) → (ℕ → ℕ → ℕ) → List Offer → ℕ → Type 0
Repaid before after os k =
    (i j : ℕ) → i < 16 → j < 16 → (i ≢ j) → Offering os i → before i j + due os k j ≤ after i j + due os k i

-- A pick from the state s to the state t. None is answered, altering nothing, exactly if all offers are 0;
-- else a place whose offer is not 0, at which the lag stays and the debts are repaid.
abbrev pub Fair : {S : Type 0} → (S → ℕ) → (S → ℕ → ℕ → ℕ) → List Offer → S → S → Option ℕ → Type 0
Fair lag debt os s t None = Quiet os × (t ≡ s)
Fair lag debt os s t (Some k) = (k < 16) × Offering os k × (lag t ≡ lag s) × Repaid (debt s) (debt t) os k
