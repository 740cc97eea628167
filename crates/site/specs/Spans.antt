-- Spans of octets, and the table of what sixteen places hold.
use Rattle.std.specs.Prelude.{◌≡◌, ℕ, ◌≤◌, min, cond, List, length, take, drop, IfSome, Option, nat_lt, slice_index_or}
use Rattle.std.specs.Option.{option_map}
use Rattle.site.specs.declared.span.Span.{Span}

-- The span of nothing.
abbrev pub nothing : Span
nothing = record { start = 0; count = 0 }

-- A span of at most 2^31 - 1 octets.
abbrev pub capped : Span → Span
capped span = record { start = span.start; count = min span.count 2147483647 }

-- The span of a place, which has at most 2^31 - 1 octets; beyond the sixteen places there is nothing.
abbrev pub span_at : List Span → ℕ → Span
span_at spans place = cond (nat_lt place 16) (capped (slice_index_or spans place nothing)) nothing

-- No place holds anything.
abbrev pub HoldsNothing : List Span → Type 0
HoldsNothing spans = (place : ℕ) → span_at spans place ≡ nothing

-- The octets of a span of a row, cut at the row's end.
abbrev pub within : Span → List ℕ → List ℕ
within span row = take span.count (drop span.start row)

-- A span was found for octets: under what spans mean here, it is exactly theirs, and its count is theirs, at most 2^31 - 1. None was found for none.
abbrev pub Finds : (Span → List ℕ) → Option Span → Option (List ℕ) → Type 0
Finds meaning found octets = (option_map meaning found ≡ octets) × IfSome found (λ s. (length (meaning s) ≡ s.count) × (s.count ≤ 2147483647))
