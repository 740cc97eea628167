use Rattle.std.proofs.Common.{sym, ap, ◌∙◌, arith}
use Rattle.tables.specs.DynamicTable.{fitted, total}
use Rattle.tables.specs.Memories.{fields_of}
use Rattle.tables.proofs.Fitting.{fitted-oldest, fitted_all}
use Rattle.tables.proofs.memory.Memory.evict.Goals as goal

pub loop-self-preserved : goal.loop-self-preserved
loop-self-preserved c =
    let e = c.drop_oldest.ensures in
    let i = c.loop-self.invariant in
    let more = fitted-oldest c.args.room (fields_of c.drop_oldest.new.self) e.after.0 (omega (arith, ap total e.after.1, c.size.ensures.value)) in
    (sym more ∙ ap (fitted c.args.room) (sym e.after.1) ∙ i.0, e.same.0 ∙ i.1, e.same.1 ∙ i.2)

pub returns-clause-after : goal.returns-clause-after
returns-clause-after c = sym (fitted_all c.args.room (fields_of c.loop-self.self) (omega (arith, c.size.ensures.value))) ∙ c.loop-self.invariant.0
