-- A walk stops at the nearest place that offers, so between two turns of a place every other offering place is reached.
use Rattle.std.proofs.Common.{◌≡◌, ℕ, zero, suc, ◌+◌, ◌<◌, ◌≤◌, Bool, true, false, cond, not, ◌&&◌, eqb, ltb, ◌⊎◌, List, [], ◌∷◌, set, Some, None, Option, refl, ap, inl, inr, arith}
use Rattle.std.specs.List.{AllByRecursion}
use Rattle.std.proofs.lemmas.List.Sums.{sum_by-cons}
use Rattle.std.proofs.lemmas.Bool.Decides.{nat_tests}
use Rattle.std.proofs.lemmas.Bool.{cond_both, ltb-true, ltb-false}
use Rattle.scheduler.specs.declared.offer.Offer.{Offer}
use Rattle.scheduler.specs.Offers.{octets_at, Offering}
use Rattle.scheduler.specs.Rounds.{quiet_below, following, walk, covers, leaves, drr_pick, standing}
use Rattle.scheduler.specs.Turns.{Turn, counted, turns, turns_of, Reached}
use Rattle.scheduler.proofs.Ring.{next_below, forth, after}

-- The place that a walk from p stops at is the nearest that offers.
abbrev Near : List Offer → ℕ → Option ℕ → Type 0
Near os p None = Unit {0}
Near os p (Some k) = (k < 16) × Offering os k × ((j : ℕ) → j < 16 → Offering os j → forth p k ≤ forth p j)

pass_near : (os : List Offer) (p : ℕ) → p < 16 → octets_at os (following p) ≤ 0 → (o : Option ℕ) → Near os (following p) o → Near os p o
unfolding forth following
pass_near os p hp none None near = tt
pass_near os p hp none (Some k) near =
    let apart : (x : ℕ) → Offering os x → x ≡ following p → ⊥ = λ x here e. omega (arith, ap (octets_at os) e) in
    (near.0, near.1, λ j hj off. grind (arith, nat_tests, near.2 j hj off, apart k near.1, apart j off))

walk_near : (os : List Offer) (n : ℕ) (bs : List ℕ) (p : ℕ) → p < 16 → Near os p (walk n bs p os).0
unfolding walk forth following
walk_near os zero bs p hp = tt
walk_near os (suc n) bs p hp =
    cond_both {A = Option ℕ × List ℕ} (ltb 0 (octets_at os (following p))) _ _ (λ r. Near os p r.0)
    (λ e. (next_below p hp, ltb-true 0 (octets_at os (following p)) e, λ j hj off. grind (arith, nat_tests)))
    (λ e. pass_near os p hp (ltb-false 0 (octets_at os (following p)) e) _ (walk_near os n (set bs (following p) 0) (following p) (next_below p hp)))

-- A pick stays at its place, or begins a turn at the nearest that offers.
abbrev Moved : List Offer → ℕ → Option ℕ → Bool → Type 0
Moved os p None begun = Unit {0}
Moved os p (Some k) begun = ((k ≡ p) × (begun ≡ false)) ⊎ (Near os p (Some k) × (begun ≡ true))

near_moved : (os : List Offer) (p : ℕ) (o : Option ℕ) (begun : Bool) → Near os p o → begun ≡ true → Moved os p o begun
near_moved os p None begun near e = tt
near_moved os p (Some k) begun near e = inr (near, e)

pick_moved : (os : List Offer) (bs : List ℕ) (p : ℕ) → p < 16 → Moved os p (drr_pick bs p os).0 (not (covers bs p os))
pick_moved os bs p hp =
    cond_both {A = Option ℕ × List ℕ} (quiet_below os 16) _ _ (λ r. Moved os p r.0 (not (covers bs p os))) (λ _. tt)
    (λ _. cond_both {A = Option ℕ × List ℕ} (covers bs p os) _ _ (λ r. Moved os p r.0 (not (covers bs p os)))
    (λ e. inl (refl, ap not e))
    (λ e. near_moved os p _ _ (walk_near os 16 (leaves bs p os) p hp) (ap not e)))

module _ (i j : ℕ) (hi : i < 16) (hj : j < 16) (ne : i ≡ j → ⊥) where
  abbrev Level : ℕ → List Turn → Type 0
  Level p ts = turns_of i ts + after i j p ≤ turns_of j ts + 1

  step : (os : List Offer) (p : ℕ) (o : Option ℕ) (begun : Bool) (ts : List Turn) → p < 16 → Offering os j → Moved os p o begun → Level (standing p o) ts → Level p (counted o begun ts)
  unfolding forth after
  step os p None begun ts hp off moved rest = rest
  step os p (Some k) begun ts hp off moved rest =
      let head : (x : ℕ) → turns_of x (counted (Some k) begun ts) ≡ cond (begun && eqb k x) 1 0 + turns_of x ts = λ x. sum_by-cons (λ t. cond (t.begun && eqb t.place x) 1 0) (record { place = k; begun = begun }) ts in
      elim moved [
        | inl stays ↦ grind (arith, nat_tests, rest, head i, head j, stays.0, stays.1)
        | inr walks ↦ grind (arith, nat_tests, rest, head i, head j, walks.1, walks.0.0, walks.0.2 j hj off)
      ]

  standing-below : (os : List Offer) (p : ℕ) (o : Option ℕ) (begun : Bool) → p < 16 → Moved os p o begun → standing p o < 16
  standing-below os p None begun hp moved = hp
  standing-below os p (Some k) begun hp moved = elim moved [ inl stays ↦ omega (arith, stays.0) | inr walks ↦ walks.0.0 ]

  level : (rows : List (List Offer)) (bs : List ℕ) (p : ℕ) → p < 16 → AllByRecursion (λ os. Offering os j) rows → Level p (turns bs p rows)
  unfolding after
  level [] bs p hp off = grind (arith, nat_tests)
  level (os ∷ rows) bs p hp off =
      let moved = pick_moved os bs p hp in
      step os p (drr_pick bs p os).0 (not (covers bs p os)) (turns (drr_pick bs p os).1 (standing p (drr_pick bs p os).0) rows) hp off.0 moved
      (level rows (drr_pick bs p os).1 (standing p (drr_pick bs p os).0) (standing-below os p _ _ hp moved) off.1)

pub reached : (bs : List ℕ) (i : ℕ) → i < 16 → Reached bs i
unfolding after
reached bs i hi = λ j rows hj ne off. grind (arith, nat_tests, level i j hi hj ne rows bs i hi off)
