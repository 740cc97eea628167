use Rattle.std.proofs.Common.{ap, length, arith, rules}
use Rattle.std.proofs.lemmas.List.{places}
use Rattle.state.specs.Queues.{length-front}
use Rattle.state.proofs.Queues.{default_behind}
use Rattle.state.proofs.queue.Queue.push.Goals as goal

pub invariant_of-self : goal.invariant_of-self
invariant_of-self c =
    let is = c.self.invariant in
    let front = length-front c.self.inside.count c.self.inside.replies is in
    let same = ap length c.self.view_is in
    record {
      within = omega arith;
      whole = search (rules, places);
      default = default_behind _ _ is c.args.reply (omega arith);
    }
