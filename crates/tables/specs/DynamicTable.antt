-- The dynamic table: a list of fields, the newest first, held to a size (RFC 7541, section 4).
use Rattle.std.specs.Prelude.{ℕ, ◌+◌, ◌-◌, ◌≤◌, cond, List, [], ◌∷◌, length, Some, None, Ok, Err, Option, Result, nat_le}
use Rattle.tables.specs.declared.refusal.TooLarge.{TooLarge}
use Rattle.tables.specs.StaticTable.{Field}

-- An entry costs its octets and 32 more.
abbrev pub cost : Field → ℕ
cost f = length f.0 + length f.1 + 32

abbrev pub total : List Field → ℕ
total [] = 0
total (f ∷ fs) = cost f + total fs

-- The oldest are dropped until the rest fits: what stays is the longest front that does.
abbrev pub fitted : ℕ → List Field → List Field
fitted room [] = []
fitted room (f ∷ fs) = cond (nat_le (cost f) room) (f ∷ fitted (room - cost f) fs) []

-- A field is added as the newest; one that is larger than the table empties it and is not added.
abbrev pub added : ℕ → Field → List Field → List Field
added limit f fs = fitted limit (f ∷ fs)

-- A table: the size that its entries are held to, and the entries.
pub record Dynamic : Type 0 where
  pub limit : ℕ
  pub entries : List Field

-- The largest size that a table may have, which is also its size at first.
abbrev pub largest : ℕ
largest = 4096

-- What holds of every table: its entries fit its size, which is at most the largest.
abbrev pub IsHeld : Dynamic → Type 0
IsHeld t = (total t.entries ≤ t.limit) × (t.limit ≤ largest)

abbrev pub fresh : Dynamic
fresh = record { limit = largest; entries = [] }

abbrev pub grown : Dynamic → Field → Dynamic
grown t f = record { limit = t.limit; entries = added t.limit f t.entries }

abbrev pub resized : Dynamic → ℕ → Dynamic
resized t n = record { limit = n; entries = fitted n t.entries }

-- A field added that has the name of an entry, which may itself be dropped; without that entry nothing is added.
abbrev pub grown_like : Dynamic → Option Field → List ℕ → Dynamic
grown_like t None v = t
grown_like t (Some f) v = grown t (f.0, v)

-- The same by the name alone, which may be that of an entry or not.
abbrev pub grown_named : Dynamic → Option (List ℕ) → List ℕ → Dynamic
grown_named t None v = t
grown_named t (Some n) v = grown t (n, v)

-- A new size: above the largest it is refused, and the table stays as it was.
abbrev pub resizing : Dynamic → ℕ → Result (Unit {0}) TooLarge × Dynamic
resizing t n = cond (nat_le n largest) (Ok tt, resized t n) (Err (record {}), t)
