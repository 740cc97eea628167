use Rattle.std.proofs.Common.{◌≡◌, length}
use Rattle.tables.specs.DynamicTable.{fitted}
use Rattle.tables.specs.Memories.{fields_of}
use Rattle.tables.proofs.memory.Memory.evict.Given as goal

abbrev pub invariant-loop-self : goal.invariant-loop-self
invariant-loop-self l =
    (fitted l.room (fields_of l.self) ≡ fitted l.room (fields_of l.initial.self)) × (l.self.octets ≡ l.initial.self.octets) × (l.self.end ≡ l.initial.self.end)

abbrev pub decreases-loop-self : goal.decreases-loop-self
decreases-loop-self l = length l.self.spans
