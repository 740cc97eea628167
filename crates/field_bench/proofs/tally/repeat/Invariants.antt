use Rattle.std.proofs.Common.{◌≡◌, ◌-◌}
use Rattle.field_bench.specs.Tallies.{repeated}
use Rattle.field_bench.proofs.tally.repeat.Given as goal

-- What is left to decode, from here, is all that there was to decode.
abbrev pub invariant-loop : goal.invariant-loop
invariant-loop l =
    repeated (l.turns - l.counter) l.block (l.table, l.tally) ≡ repeated l.turns l.block (l.initial.table, l.initial.tally)
