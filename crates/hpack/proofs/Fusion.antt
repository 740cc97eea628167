-- The fusion law: any fold over the stream of a block's fields is the fold over their list.
use Rattle.std.proofs.Common.{◌≡◌, ℕ, zero, suc, ◌+◌, ◌<◌, Bool, true, false, List, [], ◌∷◌, length, drop, Err, sym, refl, ap, ◌∙◌, arith}
use Rattle.hpack.specs.Decoding.{Effect, Outcome, Step, at_fault, decode_from, decode_list, decode_with, effect_of, folded, gives_field, gives_size, listed, refolded}
use Rattle.tables.specs.DynamicTable.{Dynamic}
use Rattle.primitives.specs.Reads.{used_of, value_of}
use Rattle.representations.specs.Representations.{representation_of}
use Rattle.tables.specs.StaticTable.{Field}

module _ {A : Type 0} (step : Step A) where
  -- What follows a representation that takes u octets.
  unfoldable pub next : ℕ → A → Dynamic → Bool → ℕ → ℕ → List ℕ → Effect → Outcome A
  next n a t early at u xs o =
      elim o [
        | at_fault ↦ (Err at, t, a)
        | gives_field f v ↦ decode_from step n (step a f.0 f.1) v false (at + u) (drop u xs)
        | gives_size v ↦ decode_from step n a v early (at + u) (drop u xs)
      ]

  pub one_more : (n : ℕ) (a : A) (t : Dynamic) (early : Bool) (at : ℕ) (xs : List ℕ) → 0 < length xs → decode_from step (suc n) a t early at xs ≡ next n a t early at (used_of (representation_of xs)) xs (effect_of t early (value_of (representation_of xs)))
  unfolding next
  one_more n a t early at [] h = absurd (omega arith)
  one_more n a t early at (x ∷ xs) h = refl

-- Two folds that agree so far agree after each representation.
module _ {A : Type 0} (step : Step A) where
  folded_more : (a : A) (fs : List Field) (n v : List ℕ) → folded step a (listed fs n v) ≡ step (folded step a fs) n v
  folded_more a [] n v = refl
  folded_more a (f ∷ fs) n v = folded_more (step a f.0 f.1) fs n v

  Fuses : ℕ → A → Type 0
  Fuses n a = (fs : List Field) (t : Dynamic) (early : Bool) (at : ℕ) (xs : List ℕ) → decode_from step n (folded step a fs) t early at xs ≡ refolded step a (decode_from listed n fs t early at xs)

  fuses-next : (n : ℕ) (a : A) → Fuses n a → (fs : List Field) (t : Dynamic) (early : Bool) (at u : ℕ) (xs : List ℕ) (o : Effect) → next step n (folded step a fs) t early at u xs o ≡ refolded step a (next listed n fs t early at u xs o)
  unfolding next Fuses
  fuses-next n a ih fs t early at u xs at_fault = refl
  fuses-next n a ih fs t early at u xs (gives_field f v) =
      ap (λ (b : A). decode_from step n b v false (at + u) (drop u xs)) (sym (folded_more a fs f.0 f.1)) ∙ ih (listed fs f.0 f.1) v false (at + u) (drop u xs)
  fuses-next n a ih fs t early at u xs (gives_size v) = ih fs v early (at + u) (drop u xs)

  fuses : (n : ℕ) (a : A) → Fuses n a
  unfolding Fuses next
  fuses n a fs t early at [] = refl
  fuses zero a fs t early at (x ∷ xs) = refl
  fuses (suc n) a fs t early at (x ∷ xs) = fuses-next n a (fuses n a) fs t early at (used_of (representation_of (x ∷ xs))) (x ∷ xs) (effect_of t early (value_of (representation_of (x ∷ xs))))

  -- So they agree over all that is left, and over a whole block.
  pub fusion-from :
      (n : ℕ) (a : A) (t : Dynamic) (early : Bool) (at : ℕ) (xs : List ℕ) → decode_from step n a t early at xs ≡ refolded step a (decode_from listed n [] t early at xs)
  unfolding Fuses
  fusion-from n a t early at xs = fuses n a [] t early at xs

  pub fusion : (a : A) (t : Dynamic) (xs : List ℕ) → decode_with step a t xs ≡ refolded step a (decode_list t xs)
  fusion a t xs = fusion-from (length xs) a t true 0 xs
