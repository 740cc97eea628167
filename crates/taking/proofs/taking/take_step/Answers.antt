use Rattle.std.proofs.Common.{◌≡◌, false, nat_le, length, ap, arith, rules}
use Rattle.std.proofs.lemmas.Bool.Decides.{nat_tests}
use Rattle.state.specs.Phases.{has_ended}
use Rattle.taking.specs.Taking.{stepped_ok}
use Rattle.taking.proofs.taking.take_step.Goals as goal

pub returns-in-Ok-clause-value : goal.returns-in-Ok-clause-value
returns-in-Ok-clause-value c =
    let going : has_ended c.args.core.now.streams.phase ≡ false = search rules in
    let room : nat_le 32 (length c.args.core.now.queue) ≡ false = grind (arith, nat_tests, c.is_full.ensures.value, c.if-is_full.false) in
    rw (going, room, ← c.in-Ok.ensures) (ap stepped_ok c.take_frame.ensures.value)
