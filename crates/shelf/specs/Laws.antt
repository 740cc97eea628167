-- What the laws of a site rest on: contents are short, and so is what a place holds.
use Rattle.std.specs.Prelude.{◌≡◌, ℕ, zero, suc, ◌+◌, ◌<◌, ◌≤◌, ◌&&◌, List, [], ◌∷◌, ◌++◌, length, take, drop, Some, None, Option, nat_le, nat_lt, slice_index, refl}
use Rattle.std.proofs.Common.{sym, ap, ◌∙◌, subst, arith, length-take, length-drop}
use Rattle.std.proofs.lemmas.List.{take-append-drop, drop-drop}
use Rattle.std.specs.Str.{bytes_eq}
use Rattle.std.proofs.lemmas.Bool.{and_parts, cond_both, ltb-true, leb-true}
use Rattle.site.specs.declared.span.Span.{Span}
use Rattle.site.specs.Sites.{Bounded}
use Rattle.site.specs.Spans.{span_at, within}
use Rattle.site.specs.Laws.{cap_low, no_span}
use Rattle.site.proofs.Parting.{within_short}
use Rattle.shelf.specs.Shelves.{Entry, entry_of, first_of, onward, shelf_held, shelf_named, size_of, walk}

-- Where an entry lies in a row: some octets of the row, its content, and the row after it. The content is bounded by its size.
pub record Lies (row : List ℕ) (e : Entry) : Type 0 where
  pub front : List ℕ
  pub parts : row ≡ front ++ (e.content ++ e.rest)
  pub inside : length e.content + length e.rest < length row
  pub small : length e.content ≤ 2147483647

pub entry_lies : (row : List ℕ) (e : Entry) → entry_of row ≡ Some e → Lies row e
entry_lies row e is =
    cond_both (nat_le 1 n && nat_le n 64 && nat_le (5 + n) (length row) && nat_lt size 2147483648 && nat_le (5 + n + size) (length row)) (Some first) None
    (λ o. o ≡ Some e → Lies row e)
    (λ fits same.
    let here : first ≡ e = cc in
    let reach = and_parts _ _ fits in let low = and_parts _ _ reach.0 in
    subst (Lies row) here (lies (leb-true (5 + n + size) (length row) reach.1) (ltb-true size 2147483648 low.1)))
    (λ _ none. absurd cc)
    is
  where
    n : ℕ
    n = slice_index row 0

    size : ℕ
    size = size_of (drop (1 + n) row)

    first : Entry
    first = record { path = take n (drop 1 row); content = take size (drop (5 + n) row); rest = drop (5 + n + size) row }

    lies : 5 + n + size ≤ length row → size < 2147483648 → Lies row first
    lies inside low =
        record {
          front = take (5 + n) row;
          parts =
              sym (take-append-drop (5 + n) row)
              ∙ ap (λ xs. take (5 + n) row ++ xs) (sym (take-append-drop size (drop (5 + n) row)) ∙ ap (λ xs. take size (drop (5 + n) row) ++ xs) (drop-drop size (5 + n) row));
          inside = simp (length-take, length-drop) (omega arith);
          small = simp length-take (omega arith);
        }

-- The content of an entry is bounded by its size.
entry_small : (row : List ℕ) (e : Entry) → entry_of row ≡ Some e → length e.content ≤ 2147483647
entry_small row e is = (entry_lies row e is).small

onward_bounded : (wanted : List ℕ) (later : List ℕ → List Entry) (found : Option Entry) → ((e : Entry) → found ≡ Some e → length e.content ≤ 2147483647)
    → ((rest : List ℕ) → Bounded (first_of wanted (later rest))) → Bounded (first_of wanted (onward [] (λ e es. e ∷ es) later found))
onward_bounded wanted later None low lows = tt
onward_bounded wanted later (Some e) low lows =
    cond_both (bytes_eq e.path wanted) (Some e.content) (first_of wanted (later e.rest)) Bounded (λ _. low e refl) (λ _. lows e.rest)

walk_bounded : (wanted : List ℕ) (n : ℕ) (row : List ℕ) → Bounded (first_of wanted (walk [] [] (λ e es. e ∷ es) n row))
unfolding walk
walk_bounded wanted zero [] = tt
walk_bounded wanted (suc n) [] = tt
walk_bounded wanted zero (x ∷ xs) = tt
walk_bounded wanted (suc n) (x ∷ xs) =
    onward_bounded wanted (walk [] [] (λ e es. e ∷ es) n) (entry_of (x ∷ xs)) (entry_small (x ∷ xs)) (walk_bounded wanted n)

pub shelf_bounded : (row wanted : List ℕ) → Bounded (shelf_named row wanted)
shelf_bounded row wanted = walk_bounded wanted (length row) row

-- A place of a shelf holds at most as many octets as its span counts.
pub shelf_held_short : (row : List ℕ) (spans : List Span) (place : ℕ) → length (shelf_held row spans place) ≤ 2147483647
shelf_held_short row spans place = omega (arith, within_short (span_at spans place) row, cap_low spans place)

-- Beyond the sixteen places a shelf holds nothing.
pub shelf_held_beyond : (row : List ℕ) (spans : List Span) (place : ℕ) → 16 ≤ place → shelf_held row spans place ≡ []
shelf_held_beyond row spans place high = ap (λ (span : Span). within span row) (no_span place spans high)
