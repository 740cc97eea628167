-- What the law of every scheduler rests on: no debt exceeds the lag.
use Rattle.std.specs.Prelude.{ℕ, ◌-◌, ◌*◌, ◌≤◌, List, ◌≢◌, slice_index}
use Rattle.std.proofs.Common.{rules}
use Rattle.scheduler.specs.Debts.{ahead, drr_debt, drr_lag, most_lead, urgency_debt, urgency_lag}
use Rattle.scheduler.specs.Offers.{largest}

-- Deficit round robin: from the bounds on its balances.
pub drr_debt_bounded : (balances : List ℕ) (current i j : ℕ) → ((k : ℕ) → (k ≢ current) → slice_index balances k ≤ largest - 1)
    → slice_index balances current ≤ 2 * largest - 2 → drr_debt balances current i j ≤ drr_lag
unfolding ahead
drr_debt_bounded balances current i j low here = search rules

-- Urgency: from the bound on its leads.
pub urgency_debt_bounded : (leads : List ℕ) (i j : ℕ) → ((k : ℕ) → slice_index leads k ≤ most_lead) → urgency_debt leads i j ≤ urgency_lag
urgency_debt_bounded leads i j low = search rules
