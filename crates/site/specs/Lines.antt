-- The line test: octets that count up from 0 to 250 again and again, in any number up to a million.
use Rattle.std.specs.Prelude.{ℕ, ◌%◌, cond, List, map, take, drop, Some, None, codes, Option, nat_le}
use Rattle.std.specs.List.{range_with_len}
use Rattle.std.specs.Option.{option_map}
use Rattle.std.specs.Str.{bytes_eq}
use Rattle.site.specs.declared.span.Span.{Span}
use Rattle.site.specs.Spans.{span_at}
use Rattle.site.specs.Texts.{number_of}

-- Of the endless line, n octets from the offset o on: the octet at each offset is the offset modulo 251.
unfoldable pub line_from : ℕ → ℕ → List ℕ
line_from o n = map (λ k. k % 251) (range_with_len o n)

-- A number of at most 1,000,000, else none.
abbrev pub at_most_million : Option ℕ → Option ℕ
at_most_million None = None
at_most_million (Some n) = cond (nat_le n 1000000) (Some n) None

-- The N of a path /line/N, written without leading zeros, from 0 to 1,000,000.
abbrev pub line_length : List ℕ → Option ℕ
line_length path = cond (bytes_eq (take 6 path) (codes "/line/")) (at_most_million (number_of (drop 6 path))) None

-- A path /line/N names the first N octets of the line; no other path is named.
abbrev pub line_named : List ℕ → Option (List ℕ)
line_named path = option_map (line_from 0) (line_length path)

-- What a span means in a line test: the front of the line, as long as the span counts.
abbrev pub line_of : Span → List ℕ
line_of span = line_from 0 span.count

-- What a place of a line test holds.
abbrev pub line_held : List Span → ℕ → List ℕ
line_held spans place = line_of (span_at spans place)
