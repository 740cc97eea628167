-- The first rank of the places that may be picked is that of the best place.
use Rattle.std.proofs.Common.{◌≡◌, ℕ, ◌+◌, Bool, true, false, cond, eqb, ltb, List, get_or, Some, None, Option, refl, ap, ◌∙◌, sym, add-one}
use Rattle.std.specs.Option.{option_map}
use Rattle.std.proofs.lemmas.Bool.{cond-true, cond-false}
use Rattle.scheduler.specs.declared.offer.Offer.{Offer}
use Rattle.scheduler.specs.declared.urgency.Rank.{Rank}
use Rattle.scheduler.specs.Offers.{offer_at}
use Rattle.scheduler.specs.Urgencies.{better, eligible, best, beats_at}
use Rattle.scheduler.specs.Chosen.{outranks, first_rank}
use Rattle.scheduler.proofs.Orders.{rank_at}

cond-ap : {A B : Type 0} (f : A → B) (b : Bool) (x y : A) → cond b (f x) (f y) ≡ f (cond b x y)
cond-ap f true x y = refl
cond-ap f false x y = refl

-- ties of one flag are streams, or leads
ties : (i j : Bool) (s t x y : ℕ)
    → cond i (cond j (ltb (cond i x s) (cond j y t)) false) (cond j true (ltb (cond i x s) (cond j y t))) ≡ cond i (cond j (ltb x y) false) (cond j true (ltb s t))
ties true true s t x y = refl
ties true false s t x y = refl
ties false true s t x y = refl
ties false false s t x y = refl

module _ (leads : List ℕ) (os : List Offer) where
  outranks-is : (p q : ℕ) → outranks (rank_at leads os p) (rank_at leads os q) ≡ beats_at leads os p q
  outranks-is p q =
      let a = offer_at os p in
      let b = offer_at os q in
      ap (λ c. cond (eqb a.urgency b.urgency) c (ltb a.urgency b.urgency)) (ties a.incremental b.incremental a.stream b.stream (get_or leads p 0) (get_or leads q 0))

  first-better : (o : Option ℕ) (n : ℕ) → Some (first_rank (option_map (rank_at leads os) o) (rank_at leads os n)) ≡ option_map (rank_at leads os) (better leads os o n)
  first-better None n = refl
  first-better (Some q) n =
      ap (λ b. Some (cond b (rank_at leads os n) (rank_at leads os q))) (outranks-is n q) ∙ ap Some (cond-ap (rank_at leads os) (beats_at leads os n q) n q)

  best_more : (n : ℕ) → best leads os (n + 1) ≡ cond (eligible leads os n) (better leads os (best leads os n) n) (best leads os n)
  unfolding best
  best_more n = rw add-one refl

  pub rank_none : None ≡ option_map (rank_at leads os) (best leads os 0)
  unfolding best
  rank_none = refl

  pub rank-takes : (n : ℕ) (o : Option Rank) → o ≡ option_map (rank_at leads os) (best leads os n) → eligible leads os n ≡ true
      → Some (first_rank o (rank_at leads os n)) ≡ option_map (rank_at leads os) (best leads os (n + 1))
  rank-takes n o e h =
      ap (λ z. Some (first_rank z (rank_at leads os n))) e ∙ first-better (best leads os n) n ∙ sym (ap (option_map (rank_at leads os)) (best_more n ∙ cond-true _ _ _ h))

  pub rank-skips : (n : ℕ) (o : Option Rank) → o ≡ option_map (rank_at leads os) (best leads os n) → eligible leads os n ≡ false
      → o ≡ option_map (rank_at leads os) (best leads os (n + 1))
  rank-skips n o e h = e ∙ sym (ap (option_map (rank_at leads os)) (best_more n ∙ cond-false _ _ _ h))

  place_of : (o : Option ℕ) → option_map (λ r. r.place) (option_map (rank_at leads os) o) ≡ o
  place_of None = refl
  place_of (Some q) = refl

  pub place-best : (n : ℕ) (o : Option Rank) → o ≡ option_map (rank_at leads os) (best leads os n) → option_map (λ r. r.place) o ≡ best leads os n
  place-best n o e = ap (option_map (λ r. r.place)) e ∙ place_of (best leads os n)
