use Rattle.std.proofs.Common.{◌≡◌, [], add-one, sym, ◌∙◌, arith}
use Rattle.tables.proofs.Lists.{drop_here, drop_past}
use Rattle.tables.proofs.table.entries.EntriesIterator.next.Goals as goal

pub returns-in_err-entry-clause-steps : goal.returns-in_err-entry-clause-steps
returns-in_err-entry-clause-steps c =
    let e : c.args.self.now ≡ [] = sym c.self.view_is ∙ drop_past _ c.self.inside.place c.in_err-entry.ensures.value in
    rw c.from_residual.ensures (e, e)

pub returns-clause-steps : goal.returns-clause-steps
returns-clause-steps c = rw add-one (sym c.self.view_is ∙ drop_here _ c.self.inside.place _ c.in_ok-entry.ensures.value)

pub returns-clause-goes : goal.returns-clause-goes
returns-clause-goes c =
    let e = sym c.self.view_is ∙ drop_here _ c.self.inside.place _ c.in_ok-entry.ensures.value in
    rw (add-one, e) (record { on = λ _. (tt, tt, omega arith); keeps = tt; rests = λ _. tt })
