-- The line that the path names is what the place holds.
use Rattle.std.proofs.Common.{arith}
use Rattle.std.proofs.lemmas.Grind.{common_steps}
use Rattle.site.specs.Laws.{line_none}
use Rattle.site.proofs.line.LineTestSite.open.Goals as goal

pub returns : goal.returns
returns c =
    record {
      value = grind (arith, common_steps);
      here = grind (arith, common_steps, line_none);
      places = grind (arith, common_steps);
      same = grind (arith, common_steps);
      refused = grind (arith, common_steps);
    }
