use Rattle.hpack.specs.Decoding.{decode_list}
use Rattle.request.proofs.Summing.{heard_all}
use Rattle.request.proofs.block.read_block.Goals as goal

pub returns-clause-value : goal.returns-clause-value
returns-clause-value c =
    let o = decode_list c.args.table.now c.args.block.now in
    heard_all o.0 o.1 o.2 c.decode.new.table c.new-summary.result c.decode.new.fold c.heard.result c.new-summary.ensures c.in_ok-decode.ensures.fused c.heard.ensures
