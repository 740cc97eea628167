-- The least lead of the offering places, one place on and in words.
use Rattle.std.proofs.Common.{◌≡◌, ℕ, zero, suc, ◌+◌, ◌≤◌, true, false, cond, ltb, List, get_or, Some, None, Option, refl, inl, inr, ◌∙◌, add-one, arith}
use Rattle.std.proofs.lemmas.Bool.{cond_both, ltb-true, ltb-false, cases_lt, cond-true, cond-false}
use Rattle.scheduler.specs.declared.offer.Offer.{Offer}
use Rattle.scheduler.specs.Offers.{octets_at, Offering}
use Rattle.scheduler.specs.Urgencies.{lesser, least_lead}
use Rattle.scheduler.specs.Chosen.{LeastIs}

module _ (leads : List ℕ) (os : List Offer) where
  least-in : (o : Option ℕ) (n : ℕ) → Offering os n → LeastIs leads os n o → LeastIs leads os (suc n) (lesser o (get_or leads n 0))
  least-in None n off q = (λ k h o. grind (arith, q k), (n, omega arith, off, refl))
  least-in (Some y) n off q = (
    λ k h o. grind (arith, q.0 k),
    elim (cases_lt y (get_or leads n 0)) [
      | inl h ↦ (q.1.0, omega (arith, q.1.1), q.1.2, omega (arith, q.1.3))
      | inr h ↦ (n, omega arith, off, omega arith)
    ],
  )

  least-out : (o : Option ℕ) (n : ℕ) → octets_at os n ≤ 0 → LeastIs leads os n o → LeastIs leads os (suc n) o
  least-out None n off q = λ k h. grind (arith, q k)
  least-out (Some y) n off q = (λ k h o. grind (arith, q.0 k), (q.1.0, omega (arith, q.1.1), q.1.2, q.1.3))

  pub least-holds : (n : ℕ) → LeastIs leads os n (least_lead leads os n)
  unfolding least_lead
  least-holds zero = λ k h. absurd (omega arith)
  least-holds (suc n) =
      cond_both (ltb 0 (octets_at os n)) _ _ (LeastIs leads os (suc n))
      (λ e. least-in (least_lead leads os n) n (ltb-true 0 (octets_at os n) e) (least-holds n))
      (λ e. least-out (least_lead leads os n) n (ltb-false 0 (octets_at os n) e) (least-holds n))

  pub least_none : least_lead leads os 0 ≡ None
  unfolding least_lead
  least_none = refl

  least_more : (n : ℕ) → least_lead leads os (n + 1) ≡ cond (ltb 0 (octets_at os n)) (lesser (least_lead leads os n) (get_or leads n 0)) (least_lead leads os n)
  unfolding least_lead
  least_more n = rw add-one refl

  pub least-takes : (n : ℕ) → ltb 0 (octets_at os n) ≡ true → least_lead leads os (n + 1) ≡ lesser (least_lead leads os n) (get_or leads n 0)
  least-takes n h = least_more n ∙ cond-true _ _ _ h

  pub least-skips : (n : ℕ) → ltb 0 (octets_at os n) ≡ false → least_lead leads os (n + 1) ≡ least_lead leads os n
  least-skips n h = least_more n ∙ cond-false _ _ _ h
