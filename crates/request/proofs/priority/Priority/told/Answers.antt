use Rattle.std.proofs.Common.{codes, rules, arith}
use Rattle.request.specs.Priorities.{told}
use Rattle.request.proofs.Spelled.{as_read}
use Rattle.request.proofs.priority.Priority.told.Goals as goal

pub returns-in-105 : goal.returns-in-105
returns-in-105 c = as_read (told c.args.self) c.args.member.now (codes "i=?0") (omega arith) (search rules)

pub returns-in-i-2 : goal.returns-in-i-2
returns-in-i-2 c = as_read (told c.args.self) c.args.member.now (codes "i=?1") (omega arith) (search rules)
