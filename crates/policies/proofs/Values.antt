-- The worked values, by computation.
use Rattle.std.proofs.Common.{true, false, refl}
use Rattle.scheduler.specs.Rounds.{quiet_below, following, walk}
use Rattle.scheduler.specs.Urgencies.{least_lead, best}
use Rattle.policies.specs.Worked.{answers, WorkedValues}

pub worked_values : WorkedValues
unfolding answers quiet_below following walk least_lead best
worked_values = (
  refl,
  refl,
  λ i. elim i [ true ↦ refl | false ↦ refl ],
  λ i. elim i [ true ↦ refl | false ↦ refl ],
)
