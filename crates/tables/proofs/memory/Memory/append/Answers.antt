use Rattle.std.proofs.Common.{◌≡◌, length, rules}
use Rattle.tables.specs.Memories.{fields_of}
use Rattle.tables.specs.Names.{given_name}
use Rattle.tables.proofs.Writes.{appended}
use Rattle.tables.proofs.memory.Memory.append.Goals as goal

pub returns-clause-made : goal.returns-clause-made
returns-clause-made c =
    let m = c.put_name-middle.new.self in
    let e = c.put_name-middle.ensures in
    let long : length m.octets ≡ 8192 = search rules in
    appended (given_name (fields_of c.args.self.now) c.args.name) m.octets c.copy_from_slice.new.self c.args.value.now m.end c.args.self.now.end c.put_name-middle.result long e.stands.end c.requires.fits e.made c.copy_from_slice.ensures.after
