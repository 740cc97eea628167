use Rattle.std.proofs.Common.{◌≡◌, suc, ◌-◌, List, length, sym, ap, ◌∙◌, arith}
use Rattle.tables.specs.declared.span.Span.{Span}
use Rattle.tables.specs.Rings.{held}
use Rattle.tables.proofs.Slots.{held-oldest, length-held}
use Rattle.tables.proofs.span.Spans.drop_oldest.Goals as goal

pub returns : goal.returns
returns c =
    let r = c.self.inside in
    let one : r.count ≡ suc (r.count - 1) = omega (arith, c.requires, length-held r.slots r.first r.count, ap (λ (ss : List Span). length ss) c.self.view_is) in
    sym c.self.view_is ∙ ap (held r.slots r.first) one ∙ held-oldest r.slots r.first (r.count - 1) c.self.invariant.0
