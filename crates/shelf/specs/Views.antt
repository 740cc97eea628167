-- What values that borrow point to.
use Rattle.std.specs.Prelude.{Ok, Err, Result}
use Rattle.shelf.specs.declared.entries.Entry.{Entry}
use Rattle.shelf.specs.declared.refusal.Refusal.{Refusal}
use Rattle.shelf.specs.Shelves as shelves

abbrev pub view_entry : Entry → shelves.Entry
view_entry e = record { path = e.path.now; content = e.content.now; rest = e.rest.now }

abbrev pub view_item : Result Entry Refusal → Result shelves.Entry Refusal
view_item (Ok e) = Ok (view_entry e)
view_item (Err r) = Err r
