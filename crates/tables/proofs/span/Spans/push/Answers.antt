use Rattle.std.proofs.Common.{◌≡◌, suc, ◌+◌, ◌%◌, ◌<◌, List, ◌∷◌, length, set, ap, ◌∙◌, arith, rules}
use Rattle.tables.specs.declared.span.Span.{Span}
use Rattle.tables.specs.Rings.{held}
use Rattle.tables.proofs.Slots.{held-push, length-held}
use Rattle.tables.proofs.span.Spans.push.Goals as goal

pub returns : goal.returns
returns c =
    let r = c.self.inside in
    let more : r.count + 1 ≡ suc r.count = omega arith in
    let long : length r.slots ≡ 128 = search rules in
    let few : r.count < 128 = omega (arith, c.requires, length-held r.slots r.first r.count, ap (λ (ss : List Span). length ss) c.self.view_is) in
    ap (held (set r.slots ((r.first + r.count) % 128) c.args.span) r.first) more ∙ held-push r.slots r.first r.count c.args.span long few ∙ ap (λ (ss : List Span). c.args.span ∷ ss) c.self.view_is
