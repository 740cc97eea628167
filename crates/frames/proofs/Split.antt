-- The first pair of a list of settings, and the pairs behind it.
use Rattle.std.proofs.Common.{◌≡◌, ℕ, List, [], ◌∷◌, refl, rules}
use Rattle.frames.specs.Settings.{first_pair, pairs, pairs_in}

-- a list of settings is its first pair and the pairs behind it
pub pairs_split : (xs : List ℕ) → pairs xs ≡ pairs_in (first_pair xs)
unfolding pairs
pairs_split [] = refl
pairs_split (a ∷ []) = refl
pairs_split (a ∷ b ∷ []) = refl
pairs_split (a ∷ b ∷ c ∷ []) = refl
pairs_split (a ∷ b ∷ c ∷ d ∷ []) = refl
pairs_split (a ∷ b ∷ c ∷ d ∷ e ∷ []) = refl
pairs_split (a ∷ b ∷ c ∷ d ∷ e ∷ f ∷ rest) = search rules
