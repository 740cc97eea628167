use Rattle.std.proofs.Common.{◌≡◌, ◌*◌, ◌≤◌, take, fold}
use Rattle.rig.specs.Tally.{lead_step}
use Rattle.rig.proofs.tally.ahead.Given as goal

abbrev pub invariant-loop-pick : goal.invariant-loop-pick
invariant-loop-pick l =
    (l.lead ≤ 4294967295 * l.pick-index)
    × ((l.lead, l.most) ≡ fold (lead_step l.place l.other) (0, 0) (take l.pick-index l.picks))
