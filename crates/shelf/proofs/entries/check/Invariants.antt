-- All items are entries if all that are left are.
use Rattle.std.proofs.Common.{◌≡◌}
use Rattle.shelf.specs.Shelves.{items_of, well_formed}
use Rattle.shelf.proofs.Rows.{all_entries}
use Rattle.shelf.proofs.entries.check.Given as goal

abbrev pub invariant-loop-entry : goal.invariant-loop-entry
invariant-loop-entry l =
    (goal.iterator-loop-entry).can_next l.entry-iterator
    × (goal.iterator-loop-entry).is_finite l.entry-iterator
    × (all_entries (items_of l.entry-iterator.rest.now) ≡ well_formed l.row)
