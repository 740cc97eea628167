-- What values that borrow point to.
use Rattle.std.specs.Prelude.{ℕ, List, Option}
use Rattle.std.specs.Borrow.{Bor}
use Rattle.slices.specs.declared.range.Asked.{Asked}
use Rattle.slices.specs.declared.range.Range.{Range}

abbrev pub both_now : Bor (List ℕ) × Bor (List ℕ) → List ℕ × List ℕ
both_now p = (p.0.now, p.1.now)

abbrev pub view_asked : Asked → List ℕ × Option Range
view_asked asked = (asked.path.now, asked.range)
