-- Slices: a path P;a-b names the octets a to b of what P names in the site below.
use Rattle.std.specs.Prelude.{ℕ, ◌+◌, ◌-◌, cond, List, length, take, drop, Some, None, Option, nat_le, nat_lt}
use Rattle.std.specs.Option.{option_map}
use Rattle.site.specs.declared.span.Span.{Span}
use Rattle.site.specs.Spans.{span_at, within}
use Rattle.site.specs.Texts.{number_of}
use Rattle.slices.specs.Cuts.{cut_last}
use Rattle.slices.specs.declared.range.Range.{Range}

-- The range from a to b, for two numbers with a ≤ b, else none.
abbrev pub in_order : Option ℕ → Option ℕ → Option Range
in_order None b = None
in_order (Some a) None = None
in_order (Some a) (Some b) = cond (nat_le a b) (Some (record { first = a; last = b })) None

-- The range that a text a-b writes: two numbers with a dash (45) between them and nothing else.
abbrev pub range_of : List ℕ → Option Range
range_of text = elim (cut_last 45 text) [ Some p ↦ in_order (number_of p.0) (number_of p.1) | None ↦ None ]

-- What a path asks of the site below: a path there, and a range of what that names, or no range for all of it. The last semicolon (59) splits a path into P and a range. Without a semicolon the path passes through; with one that no range follows nothing is asked.
abbrev pub asked_of : List ℕ → Option (List ℕ × Option Range)
asked_of path = elim (cut_last 59 path) [ None ↦ Some (path, None) | Some p ↦ option_map (λ range. (p.0, Some range)) (range_of p.1) ]

-- The octets of a range of those that were found, its last among them, cut at their end; where it begins at or past their end, none.
abbrev pub cut_out : Range → Option (List ℕ) → Option (List ℕ)
cut_out range None = None
cut_out range (Some octets) =
    cond (nat_lt range.first (length octets)) (Some (take (range.last + 1 - range.first) (drop range.first octets))) None

-- What a range has of those that were found; without a range, all.
abbrev pub part_of : Option Range → Option (List ℕ) → Option (List ℕ)
part_of None found = found
part_of (Some range) found = cut_out range found

-- What is named above a site that names by `below`, by what a path asks of it.
abbrev pub named_by : (List ℕ → Option (List ℕ)) → Option (List ℕ × Option Range) → Option (List ℕ)
named_by below None = None
named_by below (Some asked) = part_of asked.1 (below asked.0)

-- What a path names above a site that names by `below`.
abbrev pub slice_named : (List ℕ → Option (List ℕ)) → List ℕ → Option (List ℕ)
slice_named below path = named_by below (asked_of path)

-- What a place of a slice holds: its range of what the site below holds there.
abbrev pub slice_held : (ℕ → List ℕ) → List Span → ℕ → List ℕ
slice_held below ranges place = within (span_at ranges place) (below place)
