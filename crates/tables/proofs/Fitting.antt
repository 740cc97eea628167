-- What fits a room stays; what does not loses its oldest entry.
use Rattle.std.proofs.Common.{◌≡◌, ℕ, ◌+◌, ◌-◌, ◌<◌, ◌≤◌, Bool, true, false, cond, leb, List, [], ◌∷◌, ◌++◌, length, Some, None, Option, IfSome, option_map, refl, ap, ◌∙◌, arith}
use Rattle.std.proofs.lemmas.Bool.{leb-true, lt-leb, le-leb, cond-true, cond-false}
use Rattle.tables.specs.DynamicTable.{Dynamic, added, cost, fitted, grown_named, total}
use Rattle.tables.specs.Layout.{cut, room_after}
use Rattle.tables.specs.StaticTable.{Field}

pub fitted_all : (room : ℕ) (fs : List Field) → total fs ≤ room → fitted room fs ≡ fs
fitted_all room [] h = refl
fitted_all room (f ∷ fs) h =
    cond-true (leb (cost f) room) _ _ (le-leb _ _ (omega arith)) ∙ ap (λ (gs : List Field). f ∷ gs) (fitted_all (room - cost f) fs (omega arith))

step : (b : Bool) (f : Field) (xs ys : List Field) → (b ≡ true → xs ≡ ys) → cond b (f ∷ xs) [] ≡ cond b (f ∷ ys) []
step true f xs ys h = ap (λ (gs : List Field). f ∷ gs) (h refl)
step false f xs ys h = refl

pub fitted-oldest : (room : ℕ) (fs : List Field) (f : Field) → room < total (fs ++ f ∷ []) → fitted room (fs ++ f ∷ []) ≡ fitted room fs
fitted-oldest room [] f h = cond-false (leb (cost f) room) _ _ (lt-leb _ _ (omega arith))
fitted-oldest room (g ∷ gs) f h =
    step (leb (cost g) room) g _ _ (λ t. let le = leb-true _ _ t in fitted-oldest (room - cost g) gs f (omega arith))

-- An entry that fits.
pub fits : (limit room : ℕ) (name value : List ℕ) (fs : List Field) → Some room ≡ room_after limit (length name) (length value) → (name, value) ∷ fitted room fs ≡ added limit (name, value) fs
fits limit room name value fs e = at (leb (length name + length value + 32) limit) _ e
  where
    at : (b : Bool) (x : ℕ) → Some room ≡ cond b (Some x) None → (name, value) ∷ fitted room fs ≡ cond b ((name, value) ∷ fitted x fs) []
    at true x e = let same : room ≡ x = cc in ap (λ n. (name, value) ∷ fitted n fs) same
    at false x e = cc

-- An entry that was written behind the others, before the oldest of them made way.
pub grown_by :
    (t : Dynamic) (o : Option (List ℕ)) (value : List ℕ) (size room : ℕ) (xs : List ℕ) (e : ℕ) (fs : List Field) → Some size ≡ option_map length o → Some room ≡ room_after t.limit size (length value) → IfSome o (λ n. cut xs e (length n) (length value) ≡ (n, value)) → fs ≡ cut xs e size (length value) ∷ fitted room t.entries → record { limit = t.limit; entries = fs } ≡ grown_named t o value
grown_by t None value size room xs e fs a b m k = cc
grown_by t (Some n) value size room xs e fs a b m k =
    let l : size ≡ length n = cc in
    let one = ap (λ k. cut xs e k (length value)) l ∙ m in
    let all = fits t.limit room n value t.entries (b ∙ ap (λ k. room_after t.limit k (length value)) l) in
    let is = k ∙ ap (λ (f : Field). f ∷ fitted room t.entries) one ∙ all in
    λ j. record { limit = t.limit; entries = is j }
