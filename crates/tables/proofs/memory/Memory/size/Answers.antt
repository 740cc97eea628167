use Rattle.std.proofs.Common.{◌≡◌, length, arith, rules}
use Rattle.tables.proofs.Rows.{total-rows}
use Rattle.tables.proofs.memory.Memory.size.Goals as goal

pub returns-clause-value : goal.returns-clause-value
returns-clause-value c =
    let m = c.args.self.now in
    let long : length m.octets ≡ 8192 = search rules in
    omega (arith, total-rows m.octets m.end m.spans (omega (arith, m.filled)) (omega (arith, m.within)), m.filled, c.len.ensures.value)
