use Rattle.std.proofs.Common.{◌-◌, List, length, slice_get, sym, ap, ◌∙◌, arith}
use Rattle.std.proofs.lemmas.Option.{slice_get_past}
use Rattle.tables.specs.declared.span.Span.{Span}
use Rattle.tables.proofs.Slots.{held_at, length-held}
use Rattle.tables.proofs.span.Spans.get.Goals as goal

pub returns-then-place-self : goal.returns-then-place-self
returns-then-place-self c =
    let r = c.self.inside in
    sym (slice_get_past _ c.args.place (omega (arith, length-held r.slots r.first r.count, ap (λ (ss : List Span). length ss) c.self.view_is)))

pub returns : goal.returns
returns c =
    let r = c.self.inside in
    sym (held_at r.slots r.first r.count c.args.place (r.count - 1 - c.args.place) (omega arith)) ∙ ap (λ (ss : List Span). slice_get ss c.args.place) c.self.view_is
