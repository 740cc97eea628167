-- A constant table of references, against the list of what they point to.
use Rattle.std.proofs.Common.{◌≡◌, ℕ, List, map, slice_get, Some, None, sym, refl, ap, ◌∙◌, Bor, Option, length}
use Rattle.std.specs.Slice.{IsItemAt}
use Rattle.std.specs.Option.{option_copied, option_map}
use Rattle.std.proofs.lemmas.Option.{slice_get-map, slice_get_past, slice_get_read}
use Rattle.tables.specs.StaticTable.{Field}
use Rattle.tables.specs.Views.{shown_field, shown_pair}

-- `same` is one computed test of the whole table.
pub read :
    (texts : List Field) (refs : List (Bor (List ℕ) × Bor (List ℕ))) (i : ℕ) (r : Option (Bor (Bor (List ℕ) × Bor (List ℕ)))) → map shown_pair refs ≡ texts → IsItemAt refs i r → shown_field (option_copied r) ≡ slice_get texts i
read texts refs i None same h = sym (ap (λ (fs : List Field). slice_get fs i) (sym same) ∙ slice_get-map shown_pair refs i ∙ ap (option_map shown_pair) (slice_get_past refs i h.3))
read texts refs i (Some x) same h = ap (option_map shown_pair) (sym (slice_get_read refs (length refs) i x.now refl h.3.0 h.1)) ∙ sym (slice_get-map shown_pair refs i) ∙ ap (λ (fs : List Field). slice_get fs i) same
