use Rattle.std.proofs.Common.{◌+◌, take, set, arith}
use Rattle.std.proofs.lemmas.Grind.{common_steps}
use Rattle.scheduler.specs.declared.pick.Pick.{Pick}
use Rattle.scheduler.specs.Runs.{Ran}
use Rattle.scheduler.proofs.Runs.{ran-push, run-law}
use Rattle.scheduler.proofs.run.replay.Goals as goal

pub loop-made-preserved : goal.loop-made-preserved
loop-made-preserved g c =
    let m = g.S.Scheduler in
    let k = c.loop-made.made in
    let pick : Pick = record { place = c.in-Some-pick.place; charge = c.charge.result } in
    let items : Ran m.lag m.debt c.args.scheduler.now (take (k + 1) c.args.rows.now) (take (k + 1) (set c.loop-made.picks k pick)) c.pick.new.self = grind (arith, common_steps, ran-push) in
    record {
      rows = grind (arith, common_steps);
      items = items;
      same = grind (arith, common_steps);
      fair = run-law m.lag m.debt g.met.S.Scheduler.bounded _ _ _ _ items;
    }
