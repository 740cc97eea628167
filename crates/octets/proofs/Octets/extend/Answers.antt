use Rattle.std.proofs.Common.{refl, ap, length, arith, rules}
use Rattle.std.proofs.lemmas.List.{places}
use Rattle.octets.specs.Rows.{length-front}
use Rattle.octets.proofs.Rows.{zeros_behind}
use Rattle.octets.proofs.Octets.extend.Goals as goal

pub invariant_of-self : goal.invariant_of-self
invariant_of-self g c =
    let row = c.self.invariant in
    let front = length-front g.row.N c.self.inside.used c.self.inside.memory row in
    let same = ap length c.self.view_is in
    record {
      within = omega arith;
      whole = search (rules, places);
      zeros = zeros_behind g.row.N _ _ row c.args.text.now _ _ c.copy_from_slice.ensures.after refl (omega arith);
    }
