-- A scheduler chosen at run time: its lag, its debts and its steps are those of the one that it holds.
use Rattle.std.specs.Prelude.{◌≡◌, ℕ, List, Option}
use Rattle.scheduler.specs.declared.offer.Offer.{Offer}
use Rattle.policies.specs.declared.policy.Policy.{Policy}
use Rattle.policies.specs.declared.policy.Policy.TheVariants.{RoundRobin, Leashed}
use Rattle.scheduler.specs.Rounds.{drr_pick, standing}
use Rattle.scheduler.specs.Urgencies.{urgency_pick}
use Rattle.scheduler.specs.Debts.{drr_lag, drr_debt, urgency_lag, urgency_debt}

abbrev pub policy_lag : Policy → ℕ
policy_lag (RoundRobin d) = drr_lag
policy_lag (Leashed u) = urgency_lag

abbrev pub policy_debt : Policy → ℕ → ℕ → ℕ
policy_debt (RoundRobin d) = drr_debt d.balances d.current
policy_debt (Leashed u) = urgency_debt u.leads

-- A pick from one policy to the next stays with its scheduler, and is a pick by its steps.
abbrev pub Stepped : List Offer → Policy → Policy → Option ℕ → Type 0
Stepped os (RoundRobin d) (RoundRobin e) r = ((r, e.balances) ≡ drr_pick d.balances d.current os) × (e.current ≡ standing d.current r)
Stepped os (RoundRobin d) (Leashed v) r = ⊥
Stepped os (Leashed u) (RoundRobin e) r = ⊥
Stepped os (Leashed u) (Leashed v) r = (r, v.leads) ≡ urgency_pick u.leads os
