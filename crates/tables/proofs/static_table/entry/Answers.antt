use Rattle.std.proofs.Common.{◌≡◌, ◌<◌, slice_get, slice_get, sym, ap, ◌∙◌, arith}
use Rattle.std.specs.Option.{option_copied}
use Rattle.std.proofs.lemmas.Bool.{cond-true, lt-ltb}
use Rattle.tables.specs.StaticTable.{static_table}
use Rattle.tables.specs.Views.{shown_field}
use Rattle.tables.proofs.References.{read}
use Rattle.tables.proofs.static_table.entry.Goals as goal

pub returns : goal.returns
returns c =
    let found : shown_field (option_copied c.get.result) ≡ slice_get static_table c.in_ok-place.place = search (read, c.get.ensures.lookup) in
    let some : 0 < c.args.index = omega (arith, c.in_ok-place.ensures) in
    ap shown_field c.copied.ensures ∙ found ∙ ap (slice_get static_table) c.in_ok-place.ensures.1 ∙ sym (cond-true _ _ _ (lt-ltb _ _ some))
