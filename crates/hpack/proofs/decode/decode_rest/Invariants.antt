use Rattle.std.proofs.Common.{◌≡◌, ℕ, ◌-◌, ◌≤◌, true, length}
use Rattle.representations.specs.Cursors.{rest}
use Rattle.hpack.specs.Decoding.{decode_from}
use Rattle.hpack.proofs.decode.decode_rest.Given as goal

-- Some number of turns is enough for what is left, and what is left decides the outcome of all.
abbrev pub invariant-loop-cursor : goal.invariant-loop-cursor
invariant-loop-cursor g l =
    (n : ℕ)
    × (length (rest l.cursor) ≤ n)
    × (decode_from g.F.Fold.step n l.fold l.table l.early l.cursor.at (rest l.cursor) ≡ decode_from g.F.Fold.step (length (rest l.initial.cursor)) l.initial.fold l.initial.table true l.initial.cursor.at (rest l.initial.cursor))
    × (l.cursor.block ≡ l.initial.cursor.block)

abbrev pub decreases-loop-cursor : goal.decreases-loop-cursor
decreases-loop-cursor g l = length l.cursor.block - l.cursor.at
