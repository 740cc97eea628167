use Rattle.std.proofs.Common.{codes, rules, arith}
use Rattle.request.specs.Kinds.{kind_of}
use Rattle.request.proofs.Spelled.{as_read}
use Rattle.request.proofs.kind.KindFromRefSliceU8.from.Goals as goal

pub returns-in-58 : goal.returns-in-58
returns-in-58 c = as_read kind_of c.args.name.now (codes ":method") (omega arith) (search rules)

pub returns-in-58-2 : goal.returns-in-58-2
returns-in-58-2 c = as_read kind_of c.args.name.now (codes ":scheme") (omega arith) (search rules)

pub returns-in-58-3 : goal.returns-in-58-3
returns-in-58-3 c = as_read kind_of c.args.name.now (codes ":path") (omega arith) (search rules)

pub returns-in-58-4 : goal.returns-in-58-4
returns-in-58-4 c = as_read kind_of c.args.name.now (codes ":authority") (omega arith) (search rules)

pub returns-in-priority : goal.returns-in-priority
returns-in-priority c = as_read kind_of c.args.name.now (codes "priority") (omega arith) (search rules)
