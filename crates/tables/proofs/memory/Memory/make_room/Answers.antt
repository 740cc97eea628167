use Rattle.std.proofs.Common.{◌≡◌, ℕ, ◌+◌, ◌-◌, ◌≤◌, List, length, drop, sym, ap, ◌∙◌, arith, rules, length-drop}
use Rattle.std.proofs.Math.Seq.{paste}
use Rattle.tables.specs.Layout.{rows}
use Rattle.tables.proofs.Rows.{rows_same}
use Rattle.tables.proofs.Writes.{pasted_here}
use Rattle.tables.proofs.memory.Memory.make_room.Goals as goal

pub returns-then-self-needed-gt8192-clause-after : goal.returns-then-self-needed-gt8192-clause-after
returns-then-self-needed-gt8192-clause-after c =
    let m = c.args.self.now in
    let long : length m.octets ≡ 8192 = search rules in
    let l : ℕ = m.end - m.start in
    let end : m.start + l ≡ m.end = omega (arith, m.filled) in
    let front : 0 + l ≡ l = omega arith in
    let all : l ≤ length (drop m.start m.octets) = omega (arith, length-drop m.start m.octets, m.within) in
    let same = rows_same _ m.octets 0 m.start l (pasted_here m.octets (drop m.start m.octets) 0 l (omega arith) all) l m.spans (omega arith) (omega (arith, m.filled)) in
    ap (λ (xs : List ℕ). rows xs l m.spans) c.copy_within.ensures.after ∙ ap (λ n. rows (paste m.octets 0 (drop m.start m.octets) l) n m.spans) (sym front) ∙ same ∙ ap (λ n. rows m.octets n m.spans) end
