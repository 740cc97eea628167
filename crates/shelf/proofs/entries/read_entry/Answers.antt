-- The parts are those of the entry at the front.
use Rattle.std.proofs.Common.{sym, subst, arith}
use Rattle.std.specs.List.{IsFirstAndRest}
use Rattle.shelf.proofs.Rows.{parts_read}
use Rattle.shelf.proofs.entries.read_entry.Goals as goal

pub returns : goal.returns
returns c =
    let four = c.in_ok-size.ensures.cases in
    parts_read c.args.row.now c.in_ok-n.back.now c.in_ok-path.path.now c.in_ok-path.back.now c.in_ok-size.size.now c.in_ok-size.back.now c.in_ok-content.content.now
    c.in_ok-content.rest.now c.from.result c.from_be_bytes-size.result
    (subst (λ n. IsFirstAndRest c.args.row.now n c.in_ok-n.back.now) (sym c.from.ensures) c.in_ok-n.ensures.cases)
    c.in_ok-path.ensures.cases four.0 four.1 four.2 c.from_be_bytes-size.ensures c.in_ok-content.ensures.cases (grind arith) (omega arith) (omega arith)
