-- The last mark is where the definition cuts.
use Rattle.std.proofs.Common.{arith}
use Rattle.std.proofs.lemmas.Grind.{common_steps}
use Rattle.slices.proofs.Cuts.{cut_at}
use Rattle.slices.proofs.range.cut_last.Goals as goal

pub returns : goal.returns
returns c =
    let at = c.in_ok-n.ensures in
    let cuts = cut_at c.args.mark c.args.text.now c.in_ok-n.n at.0 at.1 at.2 in
    grind (arith, common_steps, cuts)
