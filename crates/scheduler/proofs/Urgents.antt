-- A pick by urgency keeps its bounds and repays the debts.
use Rattle.std.proofs.Common.{◌≡◌, ℕ, zero, suc, ◌+◌, ◌-◌, ◌<◌, ◌≤◌, List, [], ◌∷◌, length, get_or, set, Some, None, Option, refl, arith}
use Rattle.std.proofs.lemmas.Grind.{common_steps}
use Rattle.std.proofs.lemmas.Bool.Decides.{nat_tests}
use Rattle.scheduler.specs.declared.offer.Offer.{Offer}
use Rattle.scheduler.specs.Offers.{charge_at, largest}
use Rattle.scheduler.specs.Fair.{due, Repaid}
use Rattle.scheduler.specs.Urgencies.{leash, least_lead, best, lessened, urgency_pick}
use Rattle.scheduler.specs.Chosen.{LeastIs, ChosenIs}
use Rattle.scheduler.specs.Debts.{most_lead, urgency_debt}

pub lowered_at : (leads : List ℕ) (m k : ℕ) → get_or (lessened leads m) k 0 ≡ get_or leads k 0 - m
lowered_at [] m k = omega arith
lowered_at (x ∷ xs) m zero = refl
lowered_at (x ∷ xs) m (suc k) = lowered_at xs m k

-- a charge at one place, seen from each
bumped : (os : List Offer) (low : List ℕ) (k ch i : ℕ) → k < length low → ch ≡ charge_at os k → get_or (set low k (get_or low k 0 + ch)) i 0 ≡ get_or low i 0 + due os k i
bumped os low k ch i h e = grind (arith, nat_tests, common_steps)

module _ (leads : List ℕ) (os : List Offer) where
  -- the place of the least lead may be chosen
  pub some-chosen : (m : ℕ) → LeastIs leads os 16 (Some m) → ChosenIs (lessened leads m) os 16 None → ⊥
  some-chosen m q none = grind (arith, nat_tests, none q.1.0 q.1.1, lowered_at leads m q.1.0, q.1.2, q.1.3)

  pub exact-some : (low : List ℕ) (m k ch : ℕ) → Some m ≡ least_lead leads os 16 → low ≡ lessened leads m → Some k ≡ best low os 16 → ch ≡ charge_at os k → ◌≡◌ {A = Option ℕ × List ℕ} (Some k, set low k (get_or low k 0 + ch)) (urgency_pick leads os)
  exact-some low m k ch e₁ e₂ e₃ e₄ = let chosen = rw e₂ at e₃ in rw (e₂, e₄, ← e₁, ← chosen) refl

  pub urgent-repaid : (low : List ℕ) (m k ch : ℕ) → low ≡ lessened leads m → k < length low → ch ≡ charge_at os k → ((i : ℕ) → get_or leads i 0 ≤ most_lead) → LeastIs leads os 16 (Some m) → Repaid (urgency_debt leads) (urgency_debt (set low k (get_or low k 0 + ch))) os k
  urgent-repaid low m k ch e h c top q = λ i j hi hj ne off.
      grind (arith, bumped os low k ch i h c, bumped os low k ch j h c, lowered_at leads m i, lowered_at leads m j, q.0 i hi off, top i)

  pub urgent-low : (low : List ℕ) (m k ch : ℕ) → low ≡ lessened leads m → k < length low → ch ≡ charge_at os k → ((i : ℕ) → get_or leads i 0 ≤ most_lead) → get_or low k 0 ≤ leash → ch ≤ largest → (i : ℕ) → get_or (set low k (get_or low k 0 + ch)) i 0 ≤ most_lead
  urgent-low low m k ch e h c top b t i = grind (arith, nat_tests, bumped os low k ch i h c, lowered_at leads m i, top i)
