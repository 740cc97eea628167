use Rattle.std.proofs.Common.{◌<◌, option_map, Some, sym, ap, ◌∙◌, arith, rules}
use Rattle.std.proofs.lemmas.Option.{slice_get_within}
use Rattle.tables.specs.declared.span.Span.{Span}
use Rattle.tables.specs.Layout.{begins, cut}
use Rattle.tables.proofs.Marks.{mark_points}
use Rattle.tables.proofs.Rows.{row_at, row_within}
use Rattle.tables.proofs.memory.Memory.locate.Goals as goal

pub returns-in_err-span-clause-value : goal.returns-in_err-span-clause-value
returns-in_err-span-clause-value c =
    let m = c.args.self.now in
    rw c.from_residual.ensures (sym (row_at m.octets m.end m.spans c.args.i ∙ ap (option_map (λ (s : Span). cut m.octets (begins m.end m.spans c.args.i) s.name s.value)) (sym c.in_err-span.ensures)))

pub returns : goal.returns
returns c =
    let m = c.args.self.now in
    let s = c.in_ok-span.span in
    let e = c.from.ensures in
    let b : m.base < 65536 = search rules in
    let at = e ∙ mark_points m.base m.end c.args.i m.spans s (sym c.in_ok-span.ensures) m.marked b m.within in
    let row = row_at m.octets m.end m.spans c.args.i ∙ ap (option_map (λ (x : Span). cut m.octets (begins m.end m.spans c.args.i) x.name x.value)) (sym c.in_ok-span.ensures) in
    record {
      value = (λ j. Some (cut m.octets (at j) (c.from-2.ensures j) (c.from-3.ensures j))) ∙ sym row;
      within = omega (arith, at, c.from-2.ensures, c.from-3.ensures, row_within m.end m.spans c.args.i s (sym c.in_ok-span.ensures) (omega (arith, m.filled)));
      bound = omega (arith, slice_get_within m.spans c.args.i s (sym c.in_ok-span.ensures), m.small, m.filled);
    }
