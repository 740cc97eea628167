-- How memory holds the entries of the dynamic table: their octets in a row, the oldest first, up to an end; and a span for each.
use Rattle.std.specs.Prelude.{◌≡◌, ℕ, suc, ◌+◌, ◌-◌, ◌%◌, ◌<◌, cond, List, [], ◌∷◌, length, take, drop, Some, None, Option, nat_le, slice_index_or, sum_by}
use Rattle.tables.specs.declared.span.Span.{Span}
use Rattle.tables.specs.Rings.{blank}
use Rattle.tables.specs.StaticTable.{Field}

-- How many octets an entry has, name and value; and how many there are of all.
abbrev pub extent : Span → ℕ
extent s = s.name + s.value

abbrev pub space : List Span → ℕ
space ss = sum_by extent ss

-- The field whose name and value stand one after the other from `at` on.
abbrev pub cut : List ℕ → ℕ → ℕ → ℕ → Field
cut xs at name value = (take name (drop at xs), take value (drop (at + name) xs))

-- The entries of some spans, the newest first: its octets end at `end`, and those of the others before it.
abbrev pub rows : List ℕ → ℕ → List Span → List Field
rows xs end [] = []
rows xs end (s ∷ ss) = cut xs (end - extent s) s.name s.value ∷ rows xs (end - extent s) ss

-- Where the octets of the entry at a place begin.
abbrev pub begins : ℕ → List Span → ℕ → ℕ
begins end ss i = end - space (take (suc i) ss)

-- Each mark is the running number of its entry's first octet, where `base` is that of the first octet in memory.
abbrev pub Marked : ℕ → ℕ → List Span → Type 0
Marked base end ss = (i : ℕ) → i < length ss → (slice_index_or ss i blank).mark ≡ (base + begins end ss i) % 65536

-- The room that an entry leaves, if it fits.
abbrev pub room_after : ℕ → ℕ → ℕ → Option ℕ
room_after room name value = cond (nat_le (name + value + 32) room) (Some (room - (name + value + 32))) None
