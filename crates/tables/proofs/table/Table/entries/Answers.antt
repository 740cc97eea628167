use Rattle.std.proofs.Common.{arith}
use Rattle.tables.proofs.Rows.{length-rows}
use Rattle.tables.proofs.table.Table.entries.Goals as goal

pub returns-clause-bound : goal.returns-clause-bound
returns-clause-bound c =
    let m = c.self.inside.memory in
    omega (arith, length-rows m.octets m.end m.spans, m.small, m.filled)
