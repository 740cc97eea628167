-- All items of the row are left at first.
use Rattle.std.proofs.Common.{ap}
use Rattle.shelf.proofs.Rows.{all_left}
use Rattle.shelf.proofs.shelf.find.Goals as goal

pub loop-entry-init : goal.loop-entry-init
loop-entry-init c =
    (tt, tt, all_left c.args.row.now c.args.path.now c.into_iter-entry-iterator.result.rest.now (ap (λ s. s.rest.now) c.into_iter-entry-iterator.ensures.into_iter_gives))
