-- What memory stands for.
use Rattle.std.specs.Prelude.{◌≡◌, List, take}
use Rattle.tables.specs.declared.memory.Memory.{Memory}
use Rattle.tables.specs.StaticTable.{Field}
use Rattle.tables.specs.Layout.{rows}

-- The entries in it, the newest first.
abbrev pub fields_of : Memory → List Field
fields_of m = rows m.octets m.end m.spans

-- What writing octets behind the entries leaves alone.
pub record Stands (a b : Memory) : Type 0 where
  pub front : take a.end b.octets ≡ take a.end a.octets
  pub end : b.end ≡ a.end
  pub start : b.start ≡ a.start
  pub spans : b.spans ≡ a.spans
