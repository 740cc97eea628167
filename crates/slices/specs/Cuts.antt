-- Where a text of octets is cut.
use Rattle.std.specs.Prelude.{ℕ, zero, suc, ◌<◌, ◌≤◌, cond, List, length, take, drop, Some, None, Option, ◌==◌, ◌≢◌, slice_index}

-- Of the first n octets of a text, the last that is the mark cuts it: what stands before it, and what stands after it.
unfoldable pub cut_below : ℕ → List ℕ → ℕ → Option (List ℕ × List ℕ)
cut_below mark text zero = None
cut_below mark text (suc n) = cond (slice_index text n == mark) (Some (take n text, drop (suc n) text)) (cut_below mark text n)

-- The last mark of the whole text cuts it; a text without the mark is not cut.
abbrev pub cut_last : ℕ → List ℕ → Option (List ℕ × List ℕ)
cut_last mark text = cut_below mark text (length text)

-- From an offset on no octet of a text is the mark.
abbrev pub Absent : ℕ → List ℕ → ℕ → Type 0
Absent mark text from = (k : ℕ) → from ≤ k → k < length text → slice_index text k ≢ mark
