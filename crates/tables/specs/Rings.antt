-- How a ring of 128 slots holds spans.
use Rattle.std.specs.Prelude.{ℕ, zero, suc, ◌+◌, ◌%◌, List, [], ◌∷◌, slice_index_or}
use Rattle.tables.specs.declared.span.Span.{Span}

abbrev pub blank : Span
blank = record { mark = 0; name = 0; value = 0 }

-- The n oldest spans of a ring that begins at `first`, the newest of them first.
abbrev pub held : List Span → ℕ → ℕ → List Span
held slots first zero = []
held slots first (suc n) = slice_index_or slots ((first + n) % 128) blank ∷ held slots first n
