-- What the law of every scheduler rests on, for one that is chosen at run time.
use Rattle.std.specs.Prelude.{ℕ, ◌≤◌}
use Rattle.policies.specs.Policies.{policy_debt, policy_lag}
use Rattle.policies.specs.declared.policy.Policy.{Policy}
use Rattle.policies.specs.declared.policy.Policy.TheVariants.{RoundRobin, Leashed}
use Rattle.scheduler.specs.Laws.{drr_debt_bounded, urgency_debt_bounded}

-- No debt exceeds the lag.
pub policy_debt_bounded : (p : Policy) (i j : ℕ) → policy_debt p i j ≤ policy_lag p
policy_debt_bounded (RoundRobin d) i j = drr_debt_bounded d.balances d.current i j d.low d.here
policy_debt_bounded (Leashed u) i j = urgency_debt_bounded u.leads i j u.low
