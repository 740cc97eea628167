-- Worked values of the definitions, which a reader can follow by hand.
use Rattle.std.specs.Prelude.{◌≡◌, [], ◌∷◌, Some, None, codes}
use Rattle.site.specs.Lines.{line_named}
use Rattle.slices.specs.Slices.{slice_named}

-- Above the line test, /line/5;4-9 is the octet 4, and /line/5;5-9 is unnamed, since a line of 5 octets ends at offset 4.
abbrev pub Worked : Type 0
Worked = (slice_named line_named (codes "/line/5;4-9") ≡ Some (4 ∷ [])) × (slice_named line_named (codes "/line/5;5-9") ≡ None)
