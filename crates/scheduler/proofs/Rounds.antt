-- A pick of deficit round robin: by a balance that covers the charge, or by a walk from the place that is left.
use Rattle.std.proofs.Common.{◌≡◌, ℕ, ◌-◌, ◌<◌, ◌≤◌, true, false, cond, ltb, List, length, get_or, set, Some, Option, ap, arith}
use Rattle.std.proofs.lemmas.Grind.{common_steps}
use Rattle.std.proofs.lemmas.Bool.Decides.{nat_tests}
use Rattle.std.proofs.lemmas.Bool.{cond_both, ltb-false}
use Rattle.scheduler.specs.declared.offer.Offer.{Offer}
use Rattle.scheduler.specs.Offers.{octets_at, Offering, charge_at}
use Rattle.scheduler.specs.Fair.{Repaid}
use Rattle.scheduler.specs.Rounds.{quiet_below, walk, covers, leaves, drr_pick}
use Rattle.scheduler.specs.Debts.{ahead, drr_debt, Kept}
use Rattle.scheduler.proofs.Walks.{put}

-- a balance covers its place's charge
pub covered_repaid : (os : List Offer) (bs : List ℕ) (p v : ℕ) → Kept bs p → p < length bs → v ≡ get_or bs p 0 - charge_at os p → charge_at os p ≤ get_or bs p 0 → Repaid (drr_debt bs p) (drr_debt (set bs p v) p) os p
unfolding ahead
covered_repaid os bs p v kept hp e fits i j hi hj ne off =
    grind (arith, nat_tests, put bs p v i hp, put bs p v j hp, kept.low j, kept.here, kept.within)

pub covered_parts : (os : List Offer) (bs : List ℕ) (p : ℕ) → covers bs p os ≡ true → Offering os p × (charge_at os p ≤ get_or bs p 0)
covered_parts os bs p e = (grind (arith, nat_tests), grind (arith, nat_tests))

pub covered_exact : (os : List Offer) (bs : List ℕ) (p v : ℕ) → quiet_below os 16 ≡ false → covers bs p os ≡ true → v ≡ get_or bs p 0 - charge_at os p → ◌≡◌ {A = Option ℕ × List ℕ} (Some p, set bs p v) (drr_pick bs p os)
covered_exact os bs p v q c e = grind (arith, nat_tests)

pub round_exact : (os : List Offer) (bs left : List ℕ) (p : ℕ) (o : Option ℕ) (after : List ℕ) → quiet_below os 16 ≡ false → covers bs p os ≡ false → left ≡ leaves bs p os → ◌≡◌ {A = Option ℕ × List ℕ} (o, after) (walk 16 left p os) → ◌≡◌ {A = Option ℕ × List ℕ} (o, after) (drr_pick bs p os)
round_exact os bs left p o after q c l e = grind (arith, nat_tests)

pub left_leaves : (os : List Offer) (bs : List ℕ) (p v : ℕ) → p < length bs → v ≡ cond (ltb 0 (octets_at os p)) (get_or bs p 0) 0 → set bs p v ≡ leaves bs p os
left_leaves os bs p v h e = grind (arith, nat_tests, common_steps)

left_debt : (os : List Offer) (bs : List ℕ) (p i j : ℕ) → p < length bs → Offering os i → drr_debt bs p i j ≤ drr_debt (leaves bs p os) p i j
left_debt os bs p i j hp off =
    cond_both (ltb 0 (octets_at os p)) bs (set bs p 0) (λ l. drr_debt bs p i j ≤ drr_debt l p i j) (λ _. omega arith)
    (λ e. let ni : i ≡ p → ⊥ = λ s. omega (arith, ap (octets_at os) s, ltb-false 0 (octets_at os p) e) in
    grind (arith, nat_tests, put bs p 0 i hp, put bs p 0 j hp, ni))

pub left_repaid : (os : List Offer) (bs left after : List ℕ) (p k : ℕ) → p < length bs → left ≡ leaves bs p os → Repaid (drr_debt left p) (drr_debt after k) os k → Repaid (drr_debt bs p) (drr_debt after k) os k
left_repaid os bs left after p k hp e r i j hi hj ne off = grind (arith, r i j, left_debt os bs p i j hp off)
