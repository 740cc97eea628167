use Rattle.std.proofs.Common.{◌≡◌, ℕ, ◌-◌, ◌<◌, ◌≤◌, true, List, length, sym, Some, None, Err, rules, ap, ◌∙◌, arith}
use Rattle.std.proofs.lemmas.Bool.{leb-true, leb-false}
use Rattle.representations.specs.Cursors.{rest}
use Rattle.hpack.specs.declared.decode.Turn.TheVariants.{Field, Size}
use Rattle.hpack.proofs.Fusion.{fusion-from}
use Rattle.hpack.proofs.Walks.{done, stops, goes}
use Rattle.hpack.proofs.decode.decode_rest.Goals as goal

pub returns-in_err-ok_or-clause-value : goal.returns-in_err-ok_or-clause-value
returns-in_err-ok_or-clause-value g c =
    let l = c.loop-cursor in
    let left : l.cursor.at < length l.cursor.block = leb-false _ _ (sym c.loop-cursor-test.ensures.value) in
    let none : c.take_representation.result ≡ None = grind arith in
    let is : c.from_residual.result ≡ Err l.cursor.at = search rules in
    rw is (stops g.F.Fold.step l.invariant.0 l.fold l.table l.early l.cursor _ left l.invariant.1 l.invariant.2 c.take_representation.result c.take_representation.new.table c.take_representation.new.fold none c.take_representation.ensures.value)

pub returns-in_err-ok_or-clause-fused : goal.returns-in_err-ok_or-clause-fused
returns-in_err-ok_or-clause-fused g c =
    returns-in_err-ok_or-clause-value g c ∙ fusion-from g.F.Fold.step (length (rest c.args.cursor.now)) c.args.fold.now c.args.table.now true c.args.cursor.now.at (rest c.args.cursor.now)

pub loop-cursor-smaller-in-Field : goal.loop-cursor-smaller-in-Field
loop-cursor-smaller-in-Field g c =
    let l = c.loop-cursor in
    let left : l.cursor.at < length l.cursor.block = leb-false _ _ (sym c.loop-cursor-test.ensures.value) in
    let some : c.take_representation.result ≡ Some Field = grind arith in
    let r = goes g.F.Fold.step l.invariant.0 l.fold l.table l.early l.cursor _ left l.invariant.1 l.invariant.2 c.take_representation.result Field c.take_representation.new.table c.take_representation.new.fold c.take_representation.new.cursor some c.take_representation.ensures.value c.take_representation.ensures.after c.take_representation.ensures.moves in
    omega (arith, left, r.further, ap (λ (xs : List ℕ). length xs) r.same)

pub loop-cursor-preserved-in-Field : goal.loop-cursor-preserved-in-Field
loop-cursor-preserved-in-Field g c =
    let l = c.loop-cursor in
    let left : l.cursor.at < length l.cursor.block = leb-false _ _ (sym c.loop-cursor-test.ensures.value) in
    let some : c.take_representation.result ≡ Some Field = grind arith in
    let r = goes g.F.Fold.step l.invariant.0 l.fold l.table l.early l.cursor _ left l.invariant.1 l.invariant.2 c.take_representation.result Field c.take_representation.new.table c.take_representation.new.fold c.take_representation.new.cursor some c.take_representation.ensures.value c.take_representation.ensures.after c.take_representation.ensures.moves in
    (l.invariant.0 - 1, r.enough, r.outcome, r.same ∙ l.invariant.3)

pub loop-cursor-smaller : goal.loop-cursor-smaller
loop-cursor-smaller g c =
    let l = c.loop-cursor in
    let left : l.cursor.at < length l.cursor.block = leb-false _ _ (sym c.loop-cursor-test.ensures.value) in
    let some : c.take_representation.result ≡ Some Size = grind arith in
    let r = goes g.F.Fold.step l.invariant.0 l.fold l.table l.early l.cursor _ left l.invariant.1 l.invariant.2 c.take_representation.result Size c.take_representation.new.table c.take_representation.new.fold c.take_representation.new.cursor some c.take_representation.ensures.value c.take_representation.ensures.after c.take_representation.ensures.moves in
    omega (arith, left, r.further, ap (λ (xs : List ℕ). length xs) r.same)

pub loop-cursor-preserved : goal.loop-cursor-preserved
loop-cursor-preserved g c =
    let l = c.loop-cursor in
    let left : l.cursor.at < length l.cursor.block = leb-false _ _ (sym c.loop-cursor-test.ensures.value) in
    let some : c.take_representation.result ≡ Some Size = grind arith in
    let r = goes g.F.Fold.step l.invariant.0 l.fold l.table l.early l.cursor _ left l.invariant.1 l.invariant.2 c.take_representation.result Size c.take_representation.new.table c.take_representation.new.fold c.take_representation.new.cursor some c.take_representation.ensures.value c.take_representation.ensures.after c.take_representation.ensures.moves in
    (l.invariant.0 - 1, r.enough, r.outcome, r.same ∙ l.invariant.3)

pub returns-clause-fused : goal.returns-clause-fused
returns-clause-fused g c =
    let l = c.loop-cursor in
    let end : length l.cursor.block ≤ l.cursor.at = leb-true _ _ (sym c.loop-cursor-test.ensures.value) in
    sym (done g.F.Fold.step l.invariant.0 l.fold l.table l.early l.cursor end) ∙ l.invariant.2
    ∙ fusion-from g.F.Fold.step (length (rest c.args.cursor.now)) c.args.fold.now c.args.table.now true c.args.cursor.now.at (rest c.args.cursor.now)
