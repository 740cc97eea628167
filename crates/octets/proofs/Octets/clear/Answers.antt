use Rattle.std.proofs.Common.{arith, rules}
use Rattle.std.proofs.lemmas.List.{places}
use Rattle.octets.proofs.Rows.{all_zeros}
use Rattle.octets.proofs.Octets.clear.Goals as goal

pub invariant_of-self : goal.invariant_of-self
invariant_of-self g c =
    record {
      within = omega arith;
      whole = search (rules, places);
      zeros = all_zeros g.row.N _ _ c.self.invariant _ _ (c.fill.ensures.after (λ y same. same)) (search (rules, places));
    }
