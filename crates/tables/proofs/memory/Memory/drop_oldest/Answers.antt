use Rattle.std.proofs.Common.{List, [], ◌∷◌, length, ap, ◌∙◌, arith, subst}
use Rattle.std.proofs.lemmas.List.{length-append}
use Rattle.std.proofs.lemmas.List.Sums.{sum_by_push}
use Rattle.tables.specs.declared.span.Span.{Span}
use Rattle.tables.specs.Layout.{Marked, extent, rows, space}
use Rattle.tables.proofs.Marks.{marked-oldest}
use Rattle.tables.proofs.Rows.{rows-oldest}
use Rattle.tables.proofs.memory.Memory.drop_oldest.Goals as goal

pub invariant_of-self : goal.invariant_of-self
invariant_of-self c =
    let m = c.args.self.now in
    let e = c.drop_oldest-span.ensures in
    let s = c.drop_oldest-span.result in
    let n = ap (λ (ss : List Span). length ss) e in
    let l = length-append c.drop_oldest-span.new.self (s ∷ []) in
    let sum = ap space e in
    let more = sum_by_push extent c.drop_oldest-span.new.self s in
    record {
      within = m.within;
      small = omega (arith, m.small, n, l);
      filled = omega (arith, m.filled, sum, more, c.from.ensures, c.from-2.ensures);
      marked = marked-oldest m.base m.end c.drop_oldest-span.new.self s (subst (Marked m.base m.end) e m.marked);
    }

pub returns-clause-after : goal.returns-clause-after
returns-clause-after c =
    let m = c.args.self.now in
    let r = rows-oldest m.octets m.end c.drop_oldest-span.new.self c.drop_oldest-span.result in
    (r.0, ap (rows m.octets m.end) c.drop_oldest-span.ensures ∙ r.1)
