use Rattle.std.proofs.Common.{◌≡◌, ℕ, List, ◌∷◌, length, IfSome, ap, ◌∙◌, subst}
use Rattle.tables.specs.DynamicTable.{Dynamic, fitted, grown_named}
use Rattle.tables.specs.Layout.{cut}
use Rattle.tables.specs.Memories.{fields_of}
use Rattle.tables.specs.Names.{given_name}
use Rattle.tables.specs.StaticTable.{Field}
use Rattle.tables.proofs.Fitting.{grown_by}
use Rattle.tables.proofs.Rows.{fields_stand}
use Rattle.tables.proofs.table.Table.add.Goals as goal

pub returns : goal.returns
returns c =
    let m = c.self.inside.memory in
    let t : Dynamic = record { limit = c.self.inside.limit; entries = fields_of m } in
    let value : List ℕ = c.args.value.now in
    let size : ℕ = c.in-Some.length in
    let room : ℕ = c.in-Some-room_after.room in
    let written = c.append.new.self in
    let e = c.evict.ensures in
    let made = subst (λ (fs : List Field). IfSome (given_name fs c.args.name) (λ n. cut written.octets written.end (length n) (length value) ≡ (n, value))) c.make_room.ensures.after c.append.ensures.made in
    let kept = e.after ∙ ap (fitted room) (fields_stand c.make_room.new.self written c.append.ensures.stands ∙ c.make_room.ensures.after) in
    let is : fields_of c.push.new.self ≡ cut written.octets written.end size (length value) ∷ fitted room (fields_of m) = c.push.ensures.after ∙ (λ j. cut (e.same.0 j) (e.same.1 j) size (length value) ∷ kept j) in
    grown_by t (given_name (fields_of m) c.args.name) value size room written.octets written.end (fields_of c.push.new.self) c.in-Some.ensures c.in-Some-room_after.ensures made is
    ∙ ap (λ (d : Dynamic). grown_named d (given_name d.entries c.args.name) value) c.self.view_is
