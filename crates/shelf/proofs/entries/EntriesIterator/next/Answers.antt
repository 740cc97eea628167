-- An entry at the front is the first of the items.
use Rattle.std.proofs.Common.{◌<◌, length, ap, arith}
use Rattle.shelf.proofs.Rows.{items_more}
use Rattle.shelf.specs.Views.{view_entry}
use Rattle.shelf.proofs.entries.EntriesIterator.next.Goals as goal

pub returns-clause-steps : goal.returns-clause-steps
returns-clause-steps c = let some : 0 < length c.args.self.now.rest.now = grind arith in items_more c.args.self.now.rest.now (view_entry c.in-Some.entry) some c.in-Some.ensures

pub returns-clause-goes : goal.returns-clause-goes
returns-clause-goes c = let more = returns-clause-steps c in record { on = λ _. (tt, tt, omega (arith, ap length more)); keeps = tt; rests = λ _. tt }
