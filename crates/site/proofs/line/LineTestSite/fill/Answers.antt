-- What is written is a part of the line.
use Rattle.site.proofs.Liner.{fills_line}
use Rattle.site.proofs.line.LineTestSite.fill.Goals as goal

pub returns : goal.returns
returns c =
    fills_line c.span_at.result _ c.args.offset c.room-n.result c.args.buffer.now c.write_line.new.buffer
    c.span_at.ensures c.room-n.ensures c.write_line.ensures
