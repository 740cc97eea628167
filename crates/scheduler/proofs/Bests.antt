-- The best of the eligible places, one place on and in words.
use Rattle.std.proofs.Common.{◌≡◌, ℕ, zero, suc, ◌<◌, ◌≤◌, true, false, List, get_or, Some, None, Option, arith}
use Rattle.std.proofs.lemmas.Bool.Decides.{nat_tests}
use Rattle.std.proofs.lemmas.Bool.{cond_both, both_ways}
use Rattle.scheduler.specs.declared.offer.Offer.{Offer}
use Rattle.scheduler.specs.Offers.{Offering}
use Rattle.scheduler.specs.Urgencies.{leash, better, eligible, best, beats_at}
use Rattle.scheduler.specs.Chosen.{ChosenIs}
use Rattle.scheduler.proofs.Orders.{First, first-precedes, first-trans, goes, stays}

module _ (leads : List ℕ) (os : List Offer) where
  pub may-place : (n : ℕ) → eligible leads os n ≡ true → Offering os n × (get_or leads n 0 ≤ leash)
  may-place n e = (grind (arith, nat_tests), grind (arith, nat_tests))

  -- place k goes before place p by rank, if p is another eligible one
  abbrev Leads : ℕ → ℕ → Type 0
  Leads k p = eligible leads os p ≡ true → (p ≡ k → ⊥) → First leads os k p

  -- place k is the first by rank of the eligible places below n, if there is one
  abbrev Is : ℕ → Option ℕ → Type 0
  Is n None = (k : ℕ) → k < n → eligible leads os k ≡ false
  Is n (Some k) = (k < n) × (eligible leads os k ≡ true) × ((p : ℕ) → p < n → Leads k p)

  is-in : (o : Option ℕ) (n : ℕ) → eligible leads os n ≡ true → Is n o → Is (suc n) (better leads os o n)
  is-in None n e q = (omega arith, e, λ p h may ne. absurd (both_ways _ (q p (omega arith)) may))
  is-in (Some b) n e q =
      cond_both (beats_at leads os n b) n b (λ k. Is (suc n) (Some k))
      (λ y. (omega arith, e, λ p h may ne. grind (arith, goes leads os b n q.0 y, first-trans leads os n b p, q.2 p)))
      (λ y. (omega (arith, q.0), q.1, λ p h may ne. grind (arith, stays leads os b n q.0 y, q.2 p)))

  is-out : (o : Option ℕ) (n : ℕ) → eligible leads os n ≡ false → Is n o → Is (suc n) o
  is-out None n e q = λ k h. grind (arith, q k)
  is-out (Some b) n e q = (omega (arith, q.0), q.1, λ p h may ne. grind (arith, q.2 p))

  is-best : (n : ℕ) → Is n (best leads os n)
  unfolding best
  is-best zero = λ k h. absurd (omega arith)
  is-best (suc n) = cond_both (eligible leads os n) _ _ (Is (suc n)) (λ e. is-in _ n e (is-best n)) (λ e. is-out _ n e (is-best n))

  words : (n : ℕ) (o : Option ℕ) → Is n o → ChosenIs leads os n o
  words n None q = q
  words n (Some k) q = (q.0, q.1, λ p h may ne. first-precedes leads os k p (q.2 p h may ne))

  pub chosen-holds : (n : ℕ) → ChosenIs leads os n (best leads os n)
  chosen-holds n = words n _ (is-best n)
