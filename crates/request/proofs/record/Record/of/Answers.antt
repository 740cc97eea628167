use Rattle.std.proofs.lemmas.List.{take_all}
use Rattle.request.proofs.record.Record.of.Goals as goal

pub returns : goal.returns
returns c = let whole = take_all 256 c.args.posted c.len.ensures.bound in cc
