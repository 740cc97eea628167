use Rattle.std.proofs.Common.{◌≡◌, ℕ, suc, ◌+◌, ◌-◌, List, refl, ap, ◌∙◌, arith}
use Rattle.tables.specs.DynamicTable.{Dynamic}
use Rattle.field_bench.specs.declared.tally.Tally.{Tally}
use Rattle.field_bench.specs.Tallies.{counted, repeated}
use Rattle.field_bench.proofs.tally.repeat.Goals as goal

one_more : (n : ℕ) (block : List ℕ) (s : Dynamic × Tally) → repeated n block (counted block s) ≡ repeated (suc n) block s
unfolding repeated
one_more n block s = refl

no_more : (block : List ℕ) (s : Dynamic × Tally) → s ≡ repeated 0 block s
unfolding repeated
no_more block s = refl

pub loop-init : goal.loop-init
loop-init c =
    let z : c.args.turns - 0 ≡ c.args.turns = omega arith in
    ap (λ n. repeated n c.args.block.now (c.args.table.now, c.args.tally.now)) z

pub loop-preserved : goal.loop-preserved
loop-preserved c =
    let l = c.loop in
    let block : List ℕ = c.args.block.now in
    let left : ℕ = c.args.turns - (l.counter + 1) in
    let n : suc left ≡ c.args.turns - l.counter = omega arith in
    let d = c.decode.ensures.value in
    let next : (c.decode.new.table, c.decode.new.fold) ≡ counted block (l.table, l.tally) = λ j. ((d j).1, (d j).2) in
    ap (repeated left block) next ∙ one_more left block (l.table, l.tally) ∙ ap (λ k. repeated k block (l.table, l.tally)) n ∙ l.invariant

pub returns : goal.returns
returns c =
    let l = c.loop in
    let z : 0 ≡ c.args.turns - l.counter = omega arith in
    no_more c.args.block.now (l.table, l.tally) ∙ ap (λ k. repeated k c.args.block.now (l.table, l.tally)) z ∙ l.invariant
