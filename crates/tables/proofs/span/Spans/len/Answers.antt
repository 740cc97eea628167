use Rattle.std.proofs.Common.{List, length, sym, ap, ◌∙◌}
use Rattle.tables.specs.declared.span.Span.{Span}
use Rattle.tables.proofs.Slots.{length-held}
use Rattle.tables.proofs.span.Spans.len.Goals as goal

pub returns-clause-value : goal.returns-clause-value
returns-clause-value c = sym (length-held c.self.inside.slots c.self.inside.first c.self.inside.count) ∙ ap (λ (ss : List Span). length ss) c.self.view_is
