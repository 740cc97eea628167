-- The octets of the line, one by one and in parts.
use Rattle.std.specs.Prelude.{◌≡◌, ℕ, ◌+◌, ◌-◌, ◌%◌, ◌<◌, ◌≤◌, min, List, ◌++◌, length, take, drop, slice_index, refl}
use Rattle.std.proofs.Common.{sym, ap, ◌∙◌, arith, length-take, length-drop}
use Rattle.std.proofs.lemmas.List.FromFn.{get_or-map-range_with_len}
use Rattle.std.proofs.lemmas.List.{ext_get_or, get_or-take, get_or-drop}
use Rattle.site.specs.declared.span.Span.{Span}
use Rattle.site.specs.Laws.{length_line}
use Rattle.site.specs.Lines.{line_from, line_of}
use Rattle.site.specs.Sites.{Filled}

pub line_at : (o n k : ℕ) → k < n → slice_index (line_from o n) k ≡ (o + k) % 251
unfolding line_from
line_at o n k low = get_or-map-range_with_len (λ k. k % 251) o n k (o + k) 0 low refl

-- Octets that count up from the offset are a part of the line.
pub line_is : (o : ℕ) (xs : List ℕ) → ((k : ℕ) → k < length xs → slice_index xs k ≡ (o + k) % 251) → xs ≡ line_from o (length xs)
line_is o xs each =
    ext_get_or 0 xs (line_from o (length xs)) (sym (length_line o (length xs)))
    (λ k low. each k low ∙ sym (line_at o (length xs) k low))

pub line_part : (o n r : ℕ) → r ≤ n - o → take r (drop o (line_from 0 n)) ≡ line_from o r
line_part o n r inside =
    ext_get_or 0 (take r (drop o (line_from 0 n))) (line_from o r) (long ∙ sym (length_line o r))
    (λ k low. let below : k < r = omega (arith, long) in
    get_or-take r (drop o (line_from 0 n)) k 0 below ∙ get_or-drop o (line_from 0 n) k 0 ∙ line_at 0 n (o + k) (omega arith) ∙ ap (λ j. j % 251) (omega arith)
    ∙ sym (line_at o r k below))
  where
    long : length (take r (drop o (line_from 0 n))) ≡ r
    long = simp (length-take, length-drop, length_line) (omega arith)

-- A buffer whose front was written with the line from the offset on.
pub fills_line : (found span : Span) (offset n : ℕ) (before written : List ℕ)
    → found ≡ span → n ≡ min (length before) (found.count - offset) → written ≡ line_from offset (length (take n before))
    → Filled (line_of span) offset before (written ++ drop n before) n
fills_line found span offset n before written same is wrote =
    record {
      value = is ∙ ap (λ m. min (length before) (m - offset)) (counts ∙ sym (length_line 0 span.count));
      items = ap (λ xs. xs ++ drop n before) (wrote ∙ ap (line_from offset) front ∙ sym (line_part offset span.count n (omega (arith, counts))));
    }
  where
    counts : found.count ≡ span.count
    counts = ap (λ (s : Span). s.count) same

    front : length (take n before) ≡ n
    front = simp length-take (omega arith)
