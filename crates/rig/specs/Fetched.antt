-- What a path names in the site of a script.
use Rattle.std.specs.Prelude.{◌≡◌, ℕ, true, false, List, Ok, Err, Option, Result, Vec}
use Rattle.std.specs.declared.alloc.Global.{Global}
use Rattle.std.specs.Option.{option_map}
use Rattle.script.specs.declared.line.Base.{Base}
use Rattle.script.specs.declared.line.Base.TheVariants.{LineTest, Shelf}
use Rattle.script.specs.declared.line.Layers.{Layers}
use Rattle.script.specs.declared.line.Layers.TheVariants.{Zero, One, Two}
use Rattle.script.specs.declared.line.Site.{Site}
use Rattle.shelf.specs.Shelves.{shelf_named, well_formed}
use Rattle.site.specs.Lines.{line_named}
use Rattle.slices.specs.Slices.{slice_named}
use Rattle.slices.specs.Surveys.{survey_of}
use Rattle.shelf.specs.declared.refusal.Refusal.{Refusal}
use Rattle.slices.specs.declared.survey.Survey.{Survey}

-- under no, one or two layers of slices
abbrev pub under : Layers → (List ℕ → Option (List ℕ)) → List ℕ → Option (List ℕ)
under Zero named path = named path
under One named path = slice_named named path
under Two named path = slice_named (slice_named named) path

-- the line test names what it names, and so does a shelf that is well formed; any other shelf is refused
abbrev pub FetchedFrom : Base (Vec ℕ Global) → Layers → List ℕ → Result (Option Survey) Refusal → Type 0
FetchedFrom LineTest layers path r = r ≡ Ok (option_map survey_of (under layers line_named path))
FetchedFrom (Shelf octets) layers path (Ok r) = (well_formed octets.items ≡ true) × (r ≡ option_map survey_of (under layers (shelf_named octets.items) path))
FetchedFrom (Shelf octets) layers path (Err e) = well_formed octets.items ≡ false

abbrev pub Fetched : Site (Vec ℕ Global) → List ℕ → Result (Option Survey) Refusal → Type 0
Fetched site path r = FetchedFrom site.base site.layers path r
