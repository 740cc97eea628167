-- The loop over a block, turn by turn, against the definition of its decoding.
use Rattle.std.proofs.Common.{◌≡◌, ℕ, suc, ◌+◌, ◌-◌, ◌<◌, ◌≤◌, Bool, false, List, length, drop, Some, None, Ok, Err, Option, OnSome, sym, refl, ap, ◌∙◌, arith, length-drop}
use Rattle.std.proofs.lemmas.List.{drop-drop, drop_all}
use Rattle.primitives.specs.Reads.{Reading, used_of, value_of}
use Rattle.representations.specs.Cursors.{Reached, past, rest}
use Rattle.representations.specs.Representations.{representation_of}
use Rattle.tables.specs.DynamicTable.{Dynamic}
use Rattle.hpack.specs.declared.decode.Turn.{Turn}
use Rattle.hpack.specs.declared.decode.Turn.TheVariants.{Field, Size}
use Rattle.hpack.specs.Decoding.{Effect, Outcome, Step, at_fault, decode_from, effect_of, gives_field, gives_size}
use Rattle.hpack.specs.Turns.{ran}
use Rattle.hpack.proofs.Fusion.{next, one_more}

-- Whether a new size may follow a turn.
abbrev pub early_after : Turn → Bool → Bool
early_after Field early = false
early_after Size early = early

-- Where a cursor is behind what was used, and what is left there.
past_at : {X : Type 0} (c : Reached) (o : Reading X) → (past c o).at ≡ c.at + used_of o
past_at c None = omega arith
past_at c (Some p) = refl

past_rest : {X : Type 0} (c : Reached) (o : Reading X) → rest (past c o) ≡ drop (used_of o) (rest c)
past_rest c None = refl
past_rest c (Some p) = sym (drop-drop p.1 c.at c.block)

past_block : {X : Type 0} (c : Reached) (o : Reading X) → (past c o).block ≡ c.block
past_block c None = refl
past_block c (Some p) = refl

module _ {A : Type 0} (step : Step A) where
  first : {x y : Option Turn × Dynamic × A} → x ≡ y → x.0 ≡ y.0
  first e = ap (λ (p : Option Turn × Dynamic × A). p.0) e

  on-fault :
      (n : ℕ) (a : A) (t : Dynamic) (early : Bool) (at u : ℕ) (xs : List ℕ) (o : Effect) (t' : Dynamic) (a' : A) → (None, t', a') ≡ ran step a t o → next step n a t early at u xs o ≡ (Err at, t', a')
  unfolding next
  on-fault n a t early at u xs at_fault t' a' e = λ j. (Err at, (sym e j).1, (sym e j).2)
  on-fault n a t early at u xs (gives_field f v) t' a' e = let k = first e in cc
  on-fault n a t early at u xs (gives_size v) t' a' e = let k = first e in cc

  on-turn :
      (n : ℕ) (a : A) (t : Dynamic) (early : Bool) (at u : ℕ) (xs : List ℕ) (o : Effect) (turn : Turn) (t' : Dynamic) (a' : A) → (Some turn, t', a') ≡ ran step a t o → next step n a t early at u xs o ≡ decode_from step n a' t' (early_after turn early) (at + u) (drop u xs)
  unfolding next
  on-turn n a t early at u xs at_fault turn t' a' e = let k = first e in cc
  on-turn n a t early at u xs (gives_field f v) turn t' a' e =
      let k = first e in
      let q : Field ≡ turn = cc in
      λ j. decode_from step n (sym e j).2 (sym e j).1 (early_after (q j) early) (at + u) (drop u xs)
  on-turn n a t early at u xs (gives_size v) turn t' a' e =
      let k = first e in
      let q : Size ≡ turn = cc in
      λ j. decode_from step n (sym e j).2 (sym e j).1 (early_after (q j) early) (at + u) (drop u xs)

  -- After a turn: the cursor is further on in the same block, and one turn less is enough for what is left.
  pub record Goes (n : ℕ) (R : Outcome A) (c : Reached) (early : Bool) (t : Dynamic) (a : A) (d : Reached) : Type 0 where
    pub further : c.at < d.at
    pub enough : length (rest d) ≤ n - 1
    pub outcome : decode_from step (n - 1) a t early d.at (rest d) ≡ R
    pub same : d.block ≡ c.block

  -- From a cursor that has not come to the block's end, with n turns that are enough, where the outcome is R.
  module _ (n : ℕ) (a : A) (t : Dynamic) (early : Bool) (c : Reached) (R : Outcome A) (left : c.at < length c.block) (enough : length (rest c) ≤ n) (is : decode_from step n a t early c.at (rest c) ≡ R) where
    abbrev used : ℕ
    used = used_of (representation_of (rest c))

    abbrev effect : Effect
    effect = effect_of t early (value_of (representation_of (rest c)))

    some_left : 0 < length (rest c)
    some_left = omega (arith, length-drop c.at c.block)

    here : next step (n - 1) a t early c.at used (rest c) effect ≡ R
    here =
        let e : n ≡ suc (n - 1) = omega (arith, some_left) in
        sym (one_more step (n - 1) a t early c.at (rest c) some_left) ∙ ap (λ k. decode_from step k a t early c.at (rest c)) (sym e) ∙ is

    pub stops : (r : Option Turn) (t' : Dynamic) (a' : A) → r ≡ None → (r, t', a') ≡ ran step a t effect → (Err c.at, t', a') ≡ R
    stops None t' a' is e = sym (on-fault (n - 1) a t early c.at used (rest c) effect t' a' e) ∙ here
    stops (Some turn) t' a' is e = cc

    pub goes :
        (r : Option Turn) (turn : Turn) (t' : Dynamic) (a' : A) (d : Reached) → r ≡ Some turn → (r, t', a') ≡ ran step a t effect → d ≡ past c (representation_of (rest c)) → OnSome r (c.at < d.at) → Goes n R c (early_after turn early) t' a' d
    goes None turn t' a' d is e p m = cc
    goes (Some found) turn t' a' d is e p m =
        let at = ap (λ (r : Reached). r.at) p ∙ past_at c (representation_of (rest c)) in
        let left = ap rest p ∙ past_rest c (representation_of (rest c)) in
        let same : found ≡ turn = cc in
        record {
          further = m;
          enough = omega (arith, ap (λ (xs : List ℕ). length xs) left, length-drop used (rest c), at, m);
          outcome =
              (λ j. decode_from step (n - 1) a' t' (early_after (sym same j) early) (at j) (left j))
              ∙ sym (on-turn (n - 1) a t early c.at used (rest c) effect found t' a' e) ∙ here;
          same = ap (λ (r : Reached). r.block) p ∙ past_block c (representation_of (rest c));
        }

  pub done : (n : ℕ) (a : A) (t : Dynamic) (early : Bool) (c : Reached) → length c.block ≤ c.at → decode_from step n a t early c.at (rest c) ≡ (Ok tt, t, a)
  done n a t early c h = ap (decode_from step n a t early c.at) (drop_all c.at c.block h)
