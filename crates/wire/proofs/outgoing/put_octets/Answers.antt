use Rattle.std.proofs.Common.{arith, rules}
use Rattle.wire.proofs.Put.{put_is}
use Rattle.wire.proofs.outgoing.put_octets.Goals as goal

pub returns : goal.returns
returns c =
    put_is c.args.header c.args.octets.now c.args.buffer.now _ _ c.in_ok-buffer.rest.now _ (omega arith) (search rules)
    c.from.ensures c.copy_from_slice.ensures.after (search rules) (search rules)
