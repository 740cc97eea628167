use Rattle.std.proofs.Common.{◌≡◌}
use Rattle.std.specs.Option.{option_map}
use Rattle.scheduler.specs.Urgencies.{best}
use Rattle.scheduler.proofs.Orders.{rank_at}
use Rattle.scheduler.proofs.urgency.chosen.Given as goal

abbrev pub invariant-loop-place : goal.invariant-loop-place
invariant-loop-place l = l.first ≡ option_map (rank_at l.leads l.offers) (best l.leads l.offers l.place)
