-- The values come by computation.
use Rattle.std.proofs.Common.{refl}
use Rattle.site.specs.Lines.{line_from}
use Rattle.site.specs.Texts.{read_on}
use Rattle.slices.specs.Cuts.{cut_below}
use Rattle.slices.proofs.worked.worked_values.Goals as goal

pub returns : goal.returns
unfolding cut_below read_on line_from
returns c = record { same = (refl, refl); value = cc (c.count.ensures, c.count-2.ensures) }
