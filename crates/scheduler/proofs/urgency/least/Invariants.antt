use Rattle.std.proofs.Common.{◌≡◌}
use Rattle.scheduler.specs.Urgencies.{least_lead}
use Rattle.scheduler.proofs.urgency.least.Given as goal

abbrev pub invariant-loop-place : goal.invariant-loop-place
invariant-loop-place l = l.least ≡ least_lead l.leads l.offers l.place
