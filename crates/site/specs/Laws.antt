-- What the laws of a site rest on: lines are short, and so is what a place holds.
use Rattle.std.specs.Prelude.{◌≡◌, ℕ, ◌%◌, ◌≤◌, List, [], length, take, drop, Some, None, codes, Option, nat_le, nat_lt, slice_index_or, refl}
use Rattle.std.proofs.Common.{ap, ◌∙◌, arith}
use Rattle.std.proofs.lemmas.List.FromFn.{length-map-range_with_len}
use Rattle.std.proofs.lemmas.Bool.{le-ltb, cond_both, cond-false, leb-true}
use Rattle.std.specs.Option.{option_map}
use Rattle.std.specs.Str.{bytes_eq}
use Rattle.site.specs.declared.span.Span.{Span}
use Rattle.site.specs.Lines.{line_from, line_of, line_held, at_most_million, line_named}
use Rattle.site.specs.Sites.{Bounded}
use Rattle.site.specs.Spans.{capped, nothing, span_at}
use Rattle.site.specs.Texts.{number_of}

pub no_span : (place : ℕ) (spans : List Span) → 16 ≤ place → span_at spans place ≡ nothing
no_span place spans high = cond-false _ _ _ (le-ltb place 16 high)

pub cap_low : (spans : List Span) (place : ℕ) → (span_at spans place).count ≤ 2147483647
cap_low spans place =
    cond_both (nat_lt place 16) (capped (slice_index_or spans place nothing)) nothing (λ (s : Span). s.count ≤ 2147483647) (λ _. omega arith) (λ _. omega arith)

pub length_line : (o n : ℕ) → length (line_from o n) ≡ n
unfolding line_from
length_line o n = length-map-range_with_len (λ k. k % 251) o n

pub line_none : (o : ℕ) → line_from o 0 ≡ []
unfolding line_from
line_none o = refl

-- No line is longer than a million octets.
mapped_bounded : (found : Option ℕ) → Bounded (option_map (line_from 0) (at_most_million found))
mapped_bounded None = tt
mapped_bounded (Some n) =
    cond_both (nat_le n 1000000) (Some n) None (λ o. Bounded (option_map (line_from 0) o)) (λ low. omega (arith, leb-true n 1000000 low, length_line 0 n)) (λ _. tt)

pub line_bounded : (path : List ℕ) → Bounded (line_named path)
line_bounded path =
    cond_both (bytes_eq (take 6 path) (codes "/line/")) (at_most_million (number_of (drop 6 path))) None (λ o. Bounded (option_map (line_from 0) o))
    (λ _. mapped_bounded (number_of (drop 6 path))) (λ _. tt)

-- A place of a line test holds as many octets as its span counts.
pub line_held_short : (spans : List Span) (place : ℕ) → length (line_held spans place) ≤ 2147483647
line_held_short spans place = omega (arith, length_line 0 (span_at spans place).count, cap_low spans place)

-- Beyond the sixteen places a line test holds nothing.
pub line_held_beyond : (spans : List Span) (place : ℕ) → 16 ≤ place → line_held spans place ≡ []
line_held_beyond spans place high = ap line_of (no_span place spans high) ∙ line_none 0
