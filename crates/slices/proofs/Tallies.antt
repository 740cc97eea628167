-- What is told of octets, piece by piece.
use Rattle.std.proofs.Common.{◌≡◌, ℕ, ◌+◌, ◌-◌, List, [], ◌∷◌, ◌++◌, length, get_or, take, drop, Some, sym, refl, ap, ◌∙◌, arith, length-append, length-take, length-drop}
use Rattle.std.specs.List.{slice_get}
use Rattle.std.specs.Option.{option_or}
use Rattle.std.proofs.Math.Seq.{take-add}
use Rattle.std.proofs.lemmas.List.{append-nil, drop-drop, get_or-append_right, take_at}
use Rattle.std.proofs.lemmas.List.Sums.{fold-append}
use Rattle.std.proofs.lemmas.Option.{slice_get-get_or}
use Rattle.site.specs.Sites.{Filled}
use Rattle.slices.specs.declared.survey.Tally.{Tally}
use Rattle.slices.specs.Surveys.{ReadTo, adler_step, adler_sums, joined, tally_of}

first_append : (read piece : List ℕ) → slice_get (read ++ piece) 0 ≡ option_or (slice_get read 0) (slice_get piece 0)
first_append [] piece = refl
first_append (x ∷ xs) piece = refl

last_append : (read piece : List ℕ) → slice_get (read ++ piece) (length (read ++ piece) - 1) ≡ option_or (slice_get piece (length piece - 1)) (slice_get read (length read - 1))
last_append read [] = ap (λ xs. slice_get xs (length xs - 1)) (append-nil read)
last_append read (y ∷ ys) =
    slice_get-get_or (read ++ y ∷ ys) (length (read ++ y ∷ ys) - 1) 0 (omega (arith, long))
    ∙ ap Some (get_or-append_right read (y ∷ ys) (length read) (length (read ++ y ∷ ys) - 1) 0 refl (omega (arith, long)) ∙ ap (λ i. get_or (y ∷ ys) i 0) (omega (arith, long)))
    ∙ sym (ap (λ o. option_or o (slice_get read (length read - 1))) (slice_get-get_or (y ∷ ys) (length (y ∷ ys) - 1) 0 (omega arith)))
  where
    long : length (read ++ y ∷ ys) ≡ length read + length (y ∷ ys)
    long = length-append read (y ∷ ys)

tally_append : (read piece : List ℕ) → tally_of (read ++ piece) ≡ joined (tally_of read) piece
unfolding adler_sums
tally_append read piece =
    let count = length-append read piece in
    let first = first_append read piece in
    let last = last_append read piece in
    let sums = fold-append adler_step (1, 0) read piece in
    cc

-- A piece that was filled from where the reading had come to goes on with it.
pub read_more : (held before after : List ℕ) (offset n : ℕ) (tally : Tally) → ReadTo held offset tally → Filled held (offset + tally.count) before after n
    → ReadTo held offset (joined tally (take n after))
read_more held before after offset n tally read filled =
    record {
      inside = omega (arith, long, filled.value, read.inside);
      items =
          ap (λ t. joined t (take n after)) read.items
          ∙ ap (joined (tally_of (take tally.count (drop offset held)))) piece
          ∙ sym (tally_append (take tally.count (drop offset held)) (take n (drop tally.count (drop offset held))))
          ∙ ap tally_of (sym (take-add tally.count n (drop offset held)) ∙ ap (λ m. take (tally.count + m) (drop offset held)) (sym long));
    }
  where
    piece : take n after ≡ take n (drop tally.count (drop offset held))
    piece =
        ap (take n) filled.items
        ∙ take_at (take n (drop (offset + tally.count) held)) (drop n before) n (simp (length-take, length-drop) (omega (arith, filled.value)))
        ∙ ap (take n) (sym (drop-drop tally.count offset held))

    long : length (take n after) ≡ n
    long = ap length piece ∙ simp (length-take, length-drop) (omega (arith, filled.value))
