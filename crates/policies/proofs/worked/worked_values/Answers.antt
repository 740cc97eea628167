use Rattle.policies.proofs.Values.{worked_values}
use Rattle.policies.proofs.worked.worked_values.Goals as goal

pub returns-clause-made : goal.returns-clause-made
returns-clause-made c = worked_values
