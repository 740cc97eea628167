-- What a walk round the ring comes to, and that it keeps the bounds and repays the debts.
use Rattle.std.proofs.Common.{◌≡◌, ℕ, zero, suc, ◌+◌, ◌-◌, ◌<◌, ◌≤◌, ◌%◌, cond, eqb, ltb, List, length, get_or, set, Some, None, Option, sym, refl, ap, ◌∙◌, subst, arith, length-set}
use Rattle.std.proofs.lemmas.Bool.Decides.{nat_tests}
use Rattle.std.proofs.lemmas.Bool.{le-ltb, cond_both, ltb-true, ltb-false, lt-ltb, cond-true, cond-false}
use Rattle.std.proofs.lemmas.Grind.{common_steps}
use Rattle.scheduler.specs.declared.offer.Offer.{Offer}
use Rattle.scheduler.specs.Offers.{octets_at, offer_at, Offering, charge_at, largest}
use Rattle.scheduler.specs.Fair.{Repaid}
use Rattle.scheduler.specs.Rounds.{following, walk}
use Rattle.scheduler.specs.Debts.{ahead, drr_debt, Kept, Arrived}
use Rattle.scheduler.proofs.Charges.{charge_most, charge_some}
use Rattle.scheduler.proofs.Ring.{next_below, following_ring, forth}

pub put : (bs : List ℕ) (k v i : ℕ) → k < length bs → get_or (set bs k v) i 0 ≡ cond (eqb i k) v (get_or bs i 0)
put bs k v i h = grind (arith, nat_tests, common_steps)

module _ (os : List Offer) (bs : List ℕ) (p : ℕ) (hp : p < 16) (len : length bs ≡ 16) (low : (k : ℕ) → get_or bs k 0 ≤ largest - 1) where
  -- the place that is reached has an offer
  arrive-repaid : Repaid (drr_debt bs p) (drr_debt (set bs (following p) (get_or bs (following p) 0 + largest - charge_at os (following p))) (following p)) os (following p)
  unfolding ahead following
  arrive-repaid i j hi hj ne off =
      let q = following p in
      let v = get_or bs (following p) 0 + largest - charge_at os (following p) in
      let hq : following p < length bs = omega (arith, next_below p hp) in
      let most = charge_most (offer_at os q) in
      let li = low i in
      let lj = low j in
      grind (arith, nat_tests, put bs q v i hq, put bs q v j hq)

  arrive-kept : Offering os (following p) → Kept (set bs (following p) (get_or bs (following p) 0 + largest - charge_at os (following p))) (following p)
  arrive-kept off =
      let q = following p in
      let v = get_or bs (following p) 0 + largest - charge_at os (following p) in
      let hq : following p < length bs = omega (arith, next_below p hp) in
      record {
        within = next_below p hp;
        low = λ k ne. grind (arith, nat_tests, put bs q v k hq, low k);
        here = grind (arith, nat_tests, put bs q v q hq, low q, charge_some (offer_at os q) off);
      }

  -- it has none
  pass-debt : (i j : ℕ) → i < 16 → j < 16 → (i ≡ j → ⊥) → Offering os i → octets_at os (following p) ≤ 0 → drr_debt bs p i j ≤ drr_debt (set bs (following p) 0) (following p) i j
  unfolding ahead following
  pass-debt i j hi hj ne off none =
      let q = following p in
      let hq : following p < length bs = omega (arith, next_below p hp) in
      let ni : i ≡ following p → ⊥ = λ e. omega (arith, ap (octets_at os) e) in
      grind (arith, nat_tests, put bs q 0 i hq, put bs q 0 j hq, ni)

  pass-low : (k : ℕ) → get_or (set bs (following p) 0) k 0 ≤ largest - 1
  pass-low k =
      let hq : following p < length bs = omega (arith, next_below p hp) in
      grind (arith, nat_tests, put bs (following p) 0 k hq, low k)

abbrev Found : List Offer → ℕ → List ℕ → ℕ → Option ℕ → List ℕ → Type 0
Found os n bs p None after = (k : ℕ) → k < 16 → forth p k ≤ n → octets_at os k ≡ 0
Found os n bs p (Some q) after = (q < 16) × Offering os q × Kept after q × Repaid (drr_debt bs p) (drr_debt after q) os q

pass_found : (os : List Offer) (n : ℕ) (bs : List ℕ) (p : ℕ) → p < 16 → length bs ≡ 16 → ((k : ℕ) → get_or bs k 0 ≤ largest - 1) → octets_at os (following p) ≤ 0
    → (o : Option ℕ) (after : List ℕ) → Found os n (set bs (following p) 0) (following p) o after → Found os (suc n) bs p o after
unfolding forth following
pass_found os n bs p hp len low none None after f = λ k hk hf. grind (arith, nat_tests, f k hk)
pass_found os n bs p hp len low none (Some q) after f =
    (f.0, f.1, f.2, λ i j hi hj ne off. omega (arith, f.3 i j hi hj ne off, pass-debt os bs p hp len low i j hi hj ne off none))

round_found : (os : List Offer) (n : ℕ) (bs : List ℕ) (p : ℕ) → p < 16 → length bs ≡ 16 → ((k : ℕ) → get_or bs k 0 ≤ largest - 1) → Found os n bs p (walk n bs p os).0 (walk n bs p os).1
unfolding walk forth
round_found os zero bs p hp len low = λ k hk hf. grind (arith, nat_tests)
round_found os (suc n) bs p hp len low =
    cond_both {A = Option ℕ × List ℕ} (ltb 0 (octets_at os (following p))) _ _ (λ r. Found os (suc n) bs p r.0 r.1)
    (λ e. let off = ltb-true 0 (octets_at os (following p)) e in (next_below p hp, off, arrive-kept os bs p hp len low off, arrive-repaid os bs p hp len low))
    (λ e. let none = ltb-false 0 (octets_at os (following p)) e in
    pass_found os n bs p hp len low none _ _ (round_found os n (set bs (following p) 0) (following p) (next_below p hp) (length-set bs (following p) 0 ∙ len) (pass-low os bs p hp len low)))

all_found : (os : List Offer) (bs : List ℕ) (p : ℕ) → p < 16 → (o : Option ℕ) (after : List ℕ) → Found os 16 bs p o after → Arrived bs p os o after
unfolding forth
all_found os bs p hp None after f = λ k hk. f k hk (grind (arith, nat_tests))
all_found os bs p hp (Some q) after f = f

round_holds : (os : List Offer) (bs : List ℕ) (p : ℕ) → p < 16 → length bs ≡ 16 → ((k : ℕ) → get_or bs k 0 ≤ largest - 1) → Arrived bs p os (walk 16 bs p os).0 (walk 16 bs p os).1
round_holds os bs p hp len low = all_found os bs p hp _ _ (round_found os 16 bs p hp len low)

-- place r, round the ring, is reached from the one before: it has an offer, or it is passed
pub round_takes : (os : List Offer) (n : ℕ) (bs : List ℕ) (r k v : ℕ) → 0 < n → 0 < r → k ≡ r % 16 → Offering os k → v ≡ get_or bs k 0 + largest - charge_at os k
    → ◌≡◌ {A = Option ℕ × List ℕ} (Some k, set bs k v) (walk n bs ((r - 1) % 16) os)
unfolding walk
round_takes os n bs r k v some past at off paid =
    let one : n ≡ suc (n - 1) = omega arith in
    rw (one, ← following_ring r k past at, cond-true _ _ _ (lt-ltb 0 (octets_at os k) off), paid) refl

pub round_passes : (os : List Offer) (n m : ℕ) (bs : List ℕ) (r k p : ℕ) → n ≡ suc m → 0 < r → k ≡ r % 16 → p ≡ k → octets_at os k ≤ 0
    → walk m (set bs k 0) p os ≡ walk n bs ((r - 1) % 16) os
unfolding walk
round_passes os n m bs r k p one past at same none =
    rw (one, ← following_ring r k past at, cond-false _ _ _ (le-ltb 0 (octets_at os k) none), same) refl

pub round_is : (os : List Offer) (bs : List ℕ) (p : ℕ) (o : Option ℕ) (after : List ℕ) → p < 16 → length bs ≡ 16 → ((k : ℕ) → get_or bs k 0 ≤ largest - 1) → ◌≡◌ {A = Option ℕ × List ℕ} (o, after) (walk 16 bs p os) → Arrived bs p os o after
round_is os bs p o after hp len low e =
    let P : Option ℕ × List ℕ → Type 0 = λ r. Arrived bs p os r.0 r.1 in
    subst P (sym e) (round_holds os bs p hp len low)

pub round_ends : (os : List Offer) (m : ℕ) (bs : List ℕ) (p : ℕ) → m ≡ 0 → ◌≡◌ {A = Option ℕ × List ℕ} (None, bs) (walk m bs p os)
unfolding walk
round_ends os m bs p e = ap (λ z. walk z bs p os) (sym e)
