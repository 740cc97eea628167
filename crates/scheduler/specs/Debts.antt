-- The lag and the debts of the two schedulers, and the bounds on their numbers that make them so.
use Rattle.std.specs.Prelude.{ℕ, ◌+◌, ◌-◌, ◌*◌, ◌<◌, ◌≤◌, cond, List, Some, None, Option, ◌≢◌, nat_le, nat_lt, slice_index, slice_index_or}
use Rattle.scheduler.specs.declared.offer.Offer.{Offer}
use Rattle.scheduler.specs.Offers.{largest, Offering, Quiet}
use Rattle.scheduler.specs.Fair.{Repaid}
use Rattle.scheduler.specs.Urgencies.{leash}

-- Deficit round robin: 3T − 2.
abbrev pub drr_lag : ℕ
drr_lag = 3 * largest - 2

-- The steps back from place c to place x.
abbrev pub back : ℕ → ℕ → ℕ
back c x = cond (nat_le x c) (c - x) (c + 16 - x)

-- T if j is met before i, going back from the current place c, itself included: j had its turn later.
unfoldable pub ahead : ℕ → ℕ → ℕ → ℕ
ahead c i j = cond (nat_lt (back c j) (back c i)) largest 0

-- What place j owes place i: what j has spent of its balance more than i, and T where its turn came later.
-- T − 1 is added, so that it is never below 0.
abbrev pub drr_debt : List ℕ → ℕ → ℕ → ℕ → ℕ
drr_debt bs c i j = ahead c i j + (largest - 1) + slice_index bs i - slice_index bs j

-- Each balance is at most T − 1, but that of the current place c, which is at most 2T − 2.
pub record Kept (bs : List ℕ) (c : ℕ) : Type 0 where
  pub within : c < 16
  pub low : (k : ℕ) → (k ≢ c) → slice_index bs k ≤ largest - 1
  pub here : slice_index_or bs c 0 ≤ 2 * largest - 2

-- What a walk on from place p comes to: no offer at any place; or a place q, with these bounds kept and the debts repaid.
abbrev pub Arrived : List ℕ → ℕ → List Offer → Option ℕ → List ℕ → Type 0
Arrived bs p os None after = Quiet os
Arrived bs p os (Some q) after = (q < 16) × Offering os q × Kept after q × Repaid (drr_debt bs p) (drr_debt after q) os q

-- Urgency: each lead is at most B + T, and the lag is twice that.
abbrev pub most_lead : ℕ
most_lead = leash + largest

abbrev pub urgency_lag : ℕ
urgency_lag = 2 * most_lead

-- What place j owes place i: its lead over i. B + T is added, so that it is never below 0.
abbrev pub urgency_debt : List ℕ → ℕ → ℕ → ℕ
urgency_debt leads i j = slice_index leads j + most_lead - slice_index leads i
