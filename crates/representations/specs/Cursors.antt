-- A cursor over a block.
use Rattle.std.specs.Prelude.{ℕ, ◌+◌, List, drop, Some, None}
use Rattle.primitives.specs.Reads.{Reading}

-- How far a block is read: its octets, and the place of the next one.
pub record Reached : Type 0 where
  pub block : List ℕ
  pub at : ℕ

-- What is left to read.
abbrev pub rest : Reached → List ℕ
rest c = drop c.at c.block

-- How far it is after something was read there; where nothing could be, it stays.
abbrev pub past : {X : Type 0} → Reached → Reading X → Reached
past c None = c
past c (Some p) = record { block = c.block; at = c.at + p.1 }
