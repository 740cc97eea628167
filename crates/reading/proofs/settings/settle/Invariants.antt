use Rattle.std.proofs.Common.{◌≡◌}
use Rattle.frames.specs.Settings.{pairs}
use Rattle.reading.specs.Settings.{all_settled}
use Rattle.reading.proofs.settings.settle.Given as goal

abbrev pub invariant-loop-setting : goal.invariant-loop-setting
invariant-loop-setting l = all_settled l.places l.settled l.setting-iterator ≡ all_settled l.places l.fn.before (pairs l.fn.list.octets.now)
