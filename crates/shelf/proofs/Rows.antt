-- The entries of a row, one after another.
use Rattle.std.specs.Prelude.{◌≡◌, ℕ, zero, suc, ◌-◌, ◌+◌, ◌<◌, ◌≤◌, Bool, cond, ◌&&◌, nat_le, nat_lt, slice_index_or, true, false, List, [], ◌∷◌, ◌++◌, length, take, drop, Some, None, Ok, Err, Option, Result, refl}
use Rattle.std.proofs.Common.{sym, ap, ◌∙◌, subst, arith, append_assoc, length-append}
use Rattle.std.specs.Int.{from_be_bytes, w32}
use Rattle.std.specs.List.{AllByRecursion, IsFirstAndRest, IsSplitAt}
use Rattle.std.specs.Str.{bytes_eq}
use Rattle.std.proofs.lemmas.List.{take_at, drop_at, drop-drop}
use Rattle.std.proofs.lemmas.Bool.{cond-true, cond-false}
use Rattle.std.proofs.lemmas.Bool.Decides.{nat_tests}
use Rattle.site.specs.Spans.{within}
use Rattle.shelf.specs.declared.refusal.Refusal.{Refusal}
use Rattle.shelf.specs.declared.refusal.Refusal.TheVariants.{MalformedShelf}
use Rattle.shelf.specs.declared.entries.Entry as entries
use Rattle.shelf.specs.Views.{view_entry, view_item}
use Rattle.std.specs.Result.{result_ok}
use Rattle.shelf.specs.Laws.{Lies, entry_lies}
use Rattle.shelf.specs.Shelves.{Entry, along, entry_of, first_of, items_of, onward, shelf_named, size_of, walk, well_formed}

-- An entry leaves less of its row.
entry_short : (row : List ℕ) (e : Entry) → entry_of row ≡ Some e → length e.rest < length row
entry_short row e is = let inside = (entry_lies row e is).inside in omega arith

onward_same : {X : Type 0} (stuck : X) (step : Entry → X → X) (f g : List ℕ → X) (found : Option Entry)
    → ((e : Entry) → found ≡ Some e → f e.rest ≡ g e.rest) → onward stuck step f found ≡ onward stuck step g found
onward_same stuck step f g None same = refl
onward_same stuck step f g (Some e) same = ap (step e) (same e refl)

-- More room for entries than there are octets changes nothing.
enough : {X : Type 0} (done stuck : X) (step : Entry → X → X) (n m : ℕ) (row : List ℕ)
    → length row ≤ n → length row ≤ m → walk done stuck step n row ≡ walk done stuck step m row
unfolding walk
enough done stuck step zero zero [] a b = refl
enough done stuck step zero (suc m) [] a b = refl
enough done stuck step (suc n) zero [] a b = refl
enough done stuck step (suc n) (suc m) [] a b = refl
enough done stuck step zero m (x ∷ xs) a b = absurd (omega arith)
enough done stuck step (suc n) zero (x ∷ xs) a b = absurd (omega arith)
enough done stuck step (suc n) (suc m) (x ∷ xs) a b =
    onward_same stuck step (walk done stuck step n) (walk done stuck step m) (entry_of (x ∷ xs))
    (λ e is. let short = entry_short (x ∷ xs) e is in enough done stuck step n m e.rest (omega arith) (omega arith))

along_more : {X : Type 0} (done stuck : X) (step : Entry → X → X) (row : List ℕ) → 0 < length row
    → along done stuck step row ≡ onward stuck step (along done stuck step) (entry_of row)
unfolding walk
along_more done stuck step [] some = absurd (omega arith)
along_more done stuck step (x ∷ xs) some =
    onward_same stuck step (walk done stuck step (length xs)) (along done stuck step) (entry_of (x ∷ xs))
    (λ e is. let short = entry_short (x ∷ xs) e is in enough done stuck step (length xs) (length e.rest) e.rest (omega arith) (omega arith))

-- An entry that was read part by part is the one at the front of the row.
pub parts_read : (row back path after four later content rest : List ℕ) (n size : ℕ)
    → IsFirstAndRest row n back → IsSplitAt back n path after → four ≡ take 4 after → later ≡ drop 4 after → length later + 4 ≡ length after → size ≡ from_be_bytes w32 four
    → IsSplitAt later size content rest
    → 0 < length path → length path ≤ 64 → size ≤ 2147483647 → Some (record { path = path; content = content; rest = rest }) ≡ entry_of row
parts_read row back path after four later content rest n size first second fours laters long sizes third some short low =
    ap Some same ∙ sym (ap (λ m. by m (size_of (drop (1 + m) row))) heads ∙ ap (by n) size_is ∙ cond-true _ _ _ fits)
  where
    by : ℕ → ℕ → Option Entry
    by m s =
        cond (nat_le 1 m && nat_le m 64 && nat_le (5 + m) (length row) && nat_lt s 2147483648 && nat_le (5 + m + s) (length row))
        (Some (record { path = take m (drop 1 row); content = take s (drop (5 + m) row); rest = drop (5 + m + s) row }))
        None

    fits : (nat_le 1 n && nat_le n 64 && nat_le (5 + n) (length row) && nat_lt size 2147483648 && nat_le (5 + n + size) (length row)) ≡ true
    fits = grind (arith, nat_tests)

    heads : slice_index_or row 0 0 ≡ n
    heads = ap (λ xs. slice_index_or xs 0 0) first.0

    backs : back ≡ drop 1 row
    backs = ap (drop 1) (sym first.0)

    afters : after ≡ drop (1 + n) row
    afters = second.2 ∙ ap (drop n) backs ∙ drop-drop n 1 row

    size_is : size_of (drop (1 + n) row) ≡ size
    size_is = sym (sizes ∙ ap (from_be_bytes w32) (fours ∙ ap (take 4) afters))

    later_is : later ≡ drop (5 + n) row
    later_is = laters ∙ ap (drop 4) afters ∙ drop-drop 4 (1 + n) row ∙ ap (λ k. drop k row) (omega arith)

    same : ◌≡◌ {A = Entry} (record { path = path; content = content; rest = rest }) (record { path = take n (drop 1 row); content = take size (drop (5 + n) row); rest = drop (5 + n + size) row })
    same =
        let a : path ≡ take n (drop 1 row) = second.1 ∙ ap (take n) backs in
        let b : content ≡ take size (drop (5 + n) row) = third.1 ∙ ap (take size) later_is in
        let d : rest ≡ drop (5 + n + size) row = third.2 ∙ ap (drop size) later_is ∙ drop-drop size (5 + n) row in
        cc

pub items_none : (row : List ℕ) → length row ≡ 0 → items_of row ≡ []
unfolding walk
items_none [] none = refl
items_none (x ∷ xs) none = absurd (omega arith)

pub items_stuck : (row after : List ℕ) → 0 < length row → None ≡ entry_of row → length after ≡ 0 → items_of row ≡ Err MalformedShelf ∷ items_of after
items_stuck row after some read none =
    along_more [] (Err MalformedShelf ∷ []) (λ e later. Ok e ∷ later) row some
    ∙ ap (onward (Err MalformedShelf ∷ []) (λ e later. Ok e ∷ later) items_of) (sym read)
    ∙ ap (λ items. Err MalformedShelf ∷ items) (sym (items_none after none))

pub items_more : (row : List ℕ) (e : Entry) → 0 < length row → Some e ≡ entry_of row → items_of row ≡ Ok e ∷ items_of e.rest
items_more row e some read =
    along_more [] (Err MalformedShelf ∷ []) (λ e later. Ok e ∷ later) row some ∙ ap (onward (Err MalformedShelf ∷ []) (λ e later. Ok e ∷ later) items_of) (sym read)

-- What is gathered along a row is gathered from its items.
abbrev pub gathered : {X : Type 0} → X → X → (Entry → X → X) → List (Result Entry Refusal) → X
gathered done stuck step [] = done
gathered done stuck step (Ok e ∷ items) = step e (gathered done stuck step items)
gathered done stuck step (Err refusal ∷ items) = stuck

onward_gathered : {X : Type 0} (done stuck : X) (step : Entry → X → X) (f : List ℕ → X) (g : List ℕ → List (Result Entry Refusal)) (found : Option Entry)
    → ((row : List ℕ) → f row ≡ gathered done stuck step (g row))
    → onward stuck step f found ≡ gathered done stuck step (onward (Err MalformedShelf ∷ []) (λ e later. Ok e ∷ later) g found)
onward_gathered done stuck step f g None same = refl
onward_gathered done stuck step f g (Some e) same = ap (step e) (same e.rest)

walk_gathered : {X : Type 0} (done stuck : X) (step : Entry → X → X) (n : ℕ) (row : List ℕ)
    → walk done stuck step n row ≡ gathered done stuck step (walk [] (Err MalformedShelf ∷ []) (λ e later. Ok e ∷ later) n row)
unfolding walk
walk_gathered done stuck step zero [] = refl
walk_gathered done stuck step (suc n) [] = refl
walk_gathered done stuck step zero (x ∷ xs) = refl
walk_gathered done stuck step (suc n) (x ∷ xs) =
    onward_gathered done stuck step (walk done stuck step n) (walk [] (Err MalformedShelf ∷ []) (λ e later. Ok e ∷ later) n) (entry_of (x ∷ xs))
    (walk_gathered done stuck step n)

-- Whether all items are entries.
abbrev pub all_entries : List (Result Entry Refusal) → Bool
all_entries items = gathered true false (λ e later. later) items

pub formed_items : (row rest : List ℕ) → rest ≡ row → all_entries (items_of rest) ≡ well_formed row
formed_items row rest is = ap (λ xs. all_entries (items_of xs)) is ∙ sym (walk_gathered true false (λ e later. later) (length row) row)

-- The content of the first entry with a path, among items up to where no entry can be read.
abbrev pub first_item : List ℕ → List (Result Entry Refusal) → Option (List ℕ)
first_item path items = first_of path (gathered [] [] (λ e later. e ∷ later) items)

named_items : (row path : List ℕ) → first_item path (items_of row) ≡ shelf_named row path
named_items row path = ap (first_of path) (sym (walk_gathered [] [] (λ e later. e ∷ later) (length row) row))

-- Each entry of a row lies in it.
abbrev pub ItemLies : List ℕ → Result Entry Refusal → Type 0
ItemLies row (Ok e) = Lies row e
ItemLies row (Err refusal) = Unit

further : (whole front row : List ℕ) (e : Entry) → whole ≡ front ++ row → Lies row e → Lies whole e
further whole front row e is lies =
    record {
      front = front ++ lies.front;
      parts = is ∙ ap (λ xs. front ++ xs) lies.parts ∙ sym (append_assoc front lies.front (e.content ++ e.rest));
      inside = let inside = lies.inside in omega (arith, ap length is, length-append front row);
      small = lies.small;
    }

onward_lies : (whole front row : List ℕ) (g : List ℕ → List (Result Entry Refusal)) (found : Option Entry) → whole ≡ front ++ row
    → ((e : Entry) → found ≡ Some e → Lies row e) → ((front rest : List ℕ) → whole ≡ front ++ rest → AllByRecursion (ItemLies whole) (g rest))
    → AllByRecursion (ItemLies whole) (onward (Err MalformedShelf ∷ []) (λ e later. Ok e ∷ later) g found)
onward_lies whole front row g None is here later = (tt, tt)
onward_lies whole front row g (Some e) is here later =
    let lies = here e refl in (
      further whole front row e is lies,
      later (front ++ (lies.front ++ e.content)) e.rest
          (is ∙ ap (λ xs. front ++ xs) (lies.parts ∙ sym (append_assoc lies.front e.content e.rest)) ∙ sym (append_assoc front (lies.front ++ e.content) e.rest)),
    )

walk_lies : (whole : List ℕ) (n : ℕ) (front row : List ℕ) → whole ≡ front ++ row → AllByRecursion (ItemLies whole) (walk [] (Err MalformedShelf ∷ []) (λ e later. Ok e ∷ later) n row)
unfolding walk
walk_lies whole zero front [] is = tt
walk_lies whole (suc n) front [] is = tt
walk_lies whole zero front (x ∷ xs) is = (tt, tt)
walk_lies whole (suc n) front (x ∷ xs) is =
    onward_lies whole front (x ∷ xs) (walk [] (Err MalformedShelf ∷ []) (λ e later. Ok e ∷ later) n) (entry_of (x ∷ xs)) is (entry_lies (x ∷ xs)) (walk_lies whole n)

-- The span of the content of an entry of the row.
pub lies_within : (row : List ℕ) (e : Entry) → Lies row e
    → within (record { start = length row - length e.rest - length e.content; count = length e.content }) row ≡ e.content
lies_within row e lies =
    ap (λ xs. take (length e.content) (drop (length row - length e.rest - length e.content) xs)) lies.parts
    ∙ ap (take (length e.content)) (drop_at lies.front (e.content ++ e.rest) (length row - length e.rest - length e.content) reach)
    ∙ take_at e.content e.rest (length e.content) refl
  where
    reach : length lies.front ≡ length row - length e.rest - length e.content
    reach = omega (arith, ap length lies.parts, length-append lies.front (e.content ++ e.rest), length-append e.content e.rest)

-- The items that are left name by the path what the whole row names, and each lies in the row.
pub record Left (row path : List ℕ) (items : List (Result Entry Refusal)) : Type 0 where
  pub names : first_item path items ≡ shelf_named row path
  pub lies : AllByRecursion (ItemLies row) items

pub all_left : (row path rest : List ℕ) → rest ≡ row → Left row path (items_of rest)
all_left row path rest is = subst (λ xs. Left row path (items_of xs)) (sym is) (record { names = named_items row path; lies = walk_lies row (length row) [] row refl })

entry_next : (item : Result entries.Entry Refusal) (entry : entries.Entry) (items later : List (Result Entry Refusal))
    → items ≡ view_item item ∷ later → Some entry ≡ result_ok item → items ≡ Ok (view_entry entry) ∷ later
entry_next (Ok e) entry items later is ok = cc
entry_next (Err r) entry items later is ok = absurd cc

-- The next item is an entry, so it lies in the row.
pub next_lies : (row path : List ℕ) (item : Result entries.Entry Refusal) (entry : entries.Entry) (items later : List (Result Entry Refusal))
    → items ≡ view_item item ∷ later → Some entry ≡ result_ok item → Left row path items → Lies row (view_entry entry)
next_lies row path item entry items later is ok left = (subst (AllByRecursion (ItemLies row)) (entry_next item entry items later is ok) left.lies).0

-- With the path that is wanted it names its content.
pub met : (row path : List ℕ) (item : Result entries.Entry Refusal) (entry : entries.Entry) (items later : List (Result Entry Refusal))
    → items ≡ view_item item ∷ later → Some entry ≡ result_ok item → Left row path items → bytes_eq entry.path.now path ≡ true → Some entry.content.now ≡ shelf_named row path
met row path item entry items later is ok left same = sym (cond-true _ _ _ same) ∙ ap (first_item path) (sym (entry_next item entry items later is ok)) ∙ left.names

-- With another path it is passed.
pub passed : (row path : List ℕ) (item : Result entries.Entry Refusal) (entry : entries.Entry) (items later : List (Result Entry Refusal))
    → items ≡ view_item item ∷ later → Some entry ≡ result_ok item → Left row path items → bytes_eq entry.path.now path ≡ false → Left row path later
passed row path item entry items later is ok left other =
    let next = entry_next item entry items later is ok in
    record { names = sym (cond-false _ _ _ other) ∙ ap (first_item path) (sym next) ∙ left.names; lies = (subst (AllByRecursion (ItemLies row)) next left.lies).1 }
