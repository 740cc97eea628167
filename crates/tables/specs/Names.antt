-- The name of a new entry.
use Rattle.std.specs.Prelude.{ℕ, List, Some, Option, option_map, slice_get}
use Rattle.tables.specs.declared.name.NewName.{NewName}
use Rattle.tables.specs.declared.name.NewName.TheVariants.{Text, Of}
use Rattle.tables.specs.StaticTable.{Field}

-- The text, or the name of the entry at the place; there may be none.
abbrev pub given_name : List Field → NewName → Option (List ℕ)
given_name fs (Text t) = Some t.now
given_name fs (Of i) = option_map (λ (f : Field). f.0) (slice_get fs i)
