-- What is written is a part of what the site below holds.
use Rattle.std.proofs.Common.{◌++◌, drop, subst}
use Rattle.site.specs.Sites.{Filled}
use Rattle.site.specs.Spans.{within}
use Rattle.slices.proofs.Sliced.{fills_part}
use Rattle.slices.proofs.slice.SliceSite.fill.Goals as goal

pub returns : goal.returns
returns g c =
    let row = g.S.Site.holds c.args.self.now.below c.args.place in
    subst (λ span. Filled (within span row) c.args.offset c.args.buffer.now (c.fill.new.buffer ++ drop c.room-n.result c.args.buffer.now) c.fill.result) c.span_at-range.ensures
    (fills_part c.span_at-range.result row c.args.offset c.room-n.result c.saturating_add.result c.fill.result c.args.buffer.now c.fill.new.buffer
    (g.met.S.Site.held c.args.self.now.below c.args.place) c.saturating_add.ensures c.room-n.ensures c.fill.ensures)
