use Rattle.std.proofs.Common.{rules}
use Rattle.wire.proofs.RoundTrip.{reads_back}
use Rattle.wire.proofs.read.read_frame.Goals as goal

pub returns-in_err-raw-clause-back : goal.returns-in_err-raw-clause-back
returns-in_err-raw-clause-back c = reads_back c.args.octets.now c.args.seen _ (search rules)

pub returns-in_err-frame-clause-back : goal.returns-in_err-frame-clause-back
returns-in_err-frame-clause-back c = reads_back c.args.octets.now c.args.seen _ (search rules)

pub returns-clause-back : goal.returns-clause-back
returns-clause-back c = reads_back c.args.octets.now c.args.seen _ (search rules)
