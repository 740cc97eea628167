use Rattle.std.proofs.Common.{◌≡◌, ◌≤◌, length, take, drop}
use Rattle.scheduler.specs.Runs.{Ran, RunLaw}
use Rattle.scheduler.proofs.run.replay.Given as goal

abbrev pub invariant-loop-made : goal.invariant-loop-made
invariant-loop-made g l =
    let m = g.S.Scheduler in
    record {
      rows : l.made ≤ length l.rows;
      items : Ran m.lag m.debt l.initial.scheduler (take l.made l.rows) (take l.made l.picks) l.scheduler;
      same : drop l.made l.picks ≡ drop l.made l.initial.picks;
      fair : RunLaw (m.lag l.initial.scheduler) (take l.made l.rows) (take l.made l.picks);
    }
