-- The items that are left name by the path what the whole row names, and each lies in the row.
use Rattle.shelf.specs.Shelves.{items_of}
use Rattle.shelf.proofs.Rows.{Left}
use Rattle.shelf.proofs.shelf.find.Given as goal

abbrev pub invariant-loop-entry : goal.invariant-loop-entry
invariant-loop-entry l =
    (goal.iterator-loop-entry).can_next l.entry-iterator
    × (goal.iterator-loop-entry).is_finite l.entry-iterator
    × Left l.row l.path (items_of l.entry-iterator.rest.now)
