-- Shelves: entries laid out one after another in a row of octets.
use Rattle.std.specs.Prelude.{ℕ, zero, suc, ◌+◌, Bool, true, false, cond, ◌&&◌, List, [], ◌∷◌, length, take, drop, Some, None, Ok, Err, Option, Result, nat_le, nat_lt, slice_index_or}
use Rattle.std.specs.Int.{from_be_bytes, w32}
use Rattle.std.specs.Str.{bytes_eq}
use Rattle.site.specs.declared.span.Span.{Span}
use Rattle.site.specs.Spans.{span_at, within}
use Rattle.shelf.specs.declared.refusal.Refusal.{Refusal}
use Rattle.shelf.specs.declared.refusal.Refusal.TheVariants.{MalformedShelf}

-- An entry at the front of a row: its path, its content, and the row after it.
pub record Entry : Type 0 where
  pub path : List ℕ
  pub content : List ℕ
  pub rest : List ℕ

-- The first four octets of a row as a number, the most significant first.
abbrev pub size_of : List ℕ → ℕ
size_of row = from_be_bytes w32 (take 4 row)

-- The entry at the front of a row: the path's length n (1 octet, 1 to 64), n octets of path, the size (4 octets, top bit 0), and as many octets of content as the size says.
abbrev pub entry_of : List ℕ → Option Entry
entry_of row =
    let n : ℕ = slice_index_or row 0 0 in
    let size : ℕ = size_of (drop (1 + n) row) in
    cond (nat_le 1 n && nat_le n 64 && nat_le (5 + n) (length row) && nat_lt size 2147483648 && nat_le (5 + n + size) (length row))
    (Some (record { path = take n (drop 1 row); content = take size (drop (5 + n) row); rest = drop (5 + n + size) row }))
    None

-- What is gathered along a row, entry after entry: `done` at its end, `stuck` where no entry can be read, else by `step` from an entry and what the rest of the row gave.
abbrev pub onward : {X : Type 0} → X → (Entry → X → X) → (List ℕ → X) → Option Entry → X
onward stuck step later None = stuck
onward stuck step later (Some e) = step e (later e.rest)

-- The same, where at most n entries are read.
unfoldable pub walk : {X : Type 0} → X → X → (Entry → X → X) → ℕ → List ℕ → X
walk done stuck step n [] = done
walk done stuck step zero (x ∷ xs) = stuck
walk done stuck step (suc n) (x ∷ xs) = onward stuck step (walk done stuck step n) (entry_of (x ∷ xs))

-- A row has no more entries than octets.
abbrev pub along : {X : Type 0} → X → X → (Entry → X → X) → List ℕ → X
along done stuck step row = walk done stuck step (length row) row

-- Whether a row is made of entries from first to last. The empty row is, of no entries.
abbrev pub well_formed : List ℕ → Bool
well_formed row = along true false (λ e later. later) row

-- The entries of a row, up to where no entry can be read.
abbrev pub entries_of : List ℕ → List Entry
entries_of row = along [] [] (λ e later. e ∷ later) row

-- The same, and where no entry can be read the refusal, as the last.
abbrev pub items_of : List ℕ → List (Result Entry Refusal)
items_of row = along [] (Err MalformedShelf ∷ []) (λ e later. Ok e ∷ later) row

-- The content of the first entry with a path.
abbrev pub first_of : List ℕ → List Entry → Option (List ℕ)
first_of path [] = None
first_of path (e ∷ es) = cond (bytes_eq e.path path) (Some e.content) (first_of path es)

-- What a path names on a shelf.
abbrev pub shelf_named : List ℕ → List ℕ → Option (List ℕ)
shelf_named row path = first_of path (entries_of row)

-- What a place of a shelf holds.
abbrev pub shelf_held : List ℕ → List Span → ℕ → List ℕ
shelf_held row spans place = within (span_at spans place) row
