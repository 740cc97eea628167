-- The order of ranks: it is total, it decides which offer beats which, and it is that of the places.
use Rattle.std.proofs.Common.{◌≡◌, ℕ, ◌<◌, Bool, true, false, cond, eqb, ltb, List, get_or, subst, arith}
use Rattle.std.specs.Cmp.{IsTotalOrder, bool_cmp_total}
use Rattle.std.specs.declared.cmp.Ordering.{Ordering}
use Rattle.std.specs.declared.cmp.Ordering.TheVariants.{Less}
use Rattle.std.specs.Ordering.{nat_cmp, bool_cmp, ordering_then}
use Rattle.std.proofs.lemmas.Bool.Decides.{nat_tests}
use Rattle.std.proofs.lemmas.Cmp.{then_total, on_total, nat_cmp_total}
use Rattle.scheduler.specs.declared.offer.Offer.{Offer}
use Rattle.scheduler.specs.declared.urgency.Rank.{Rank}
use Rattle.scheduler.specs.Offers.{offer_at}
use Rattle.scheduler.specs.Urgencies.{beats_at}
use Rattle.scheduler.specs.Chosen.{Before, rank_of, Precedes}

-- Ranks go by their parts in this order.
abbrev pub rank_cmp : Rank → Rank → Ordering
rank_cmp a b =
    ordering_then (nat_cmp a.urgency b.urgency)
    (ordering_then (bool_cmp a.incremental b.incremental) (ordering_then (nat_cmp a.tie b.tie) (nat_cmp a.place b.place)))

pub rank_cmp_total : IsTotalOrder rank_cmp
rank_cmp_total =
    then_total (on_total (λ r. r.urgency) nat_cmp_total)
    (then_total (on_total (λ r. r.incremental) bool_cmp_total) (then_total (on_total (λ r. r.tie) nat_cmp_total) (on_total (λ r. r.place) nat_cmp_total)))

-- Of two places at offers of these parts, p before q by rank: so it is in words.
in_words : (i j : Bool) (u v t w p q : ℕ)
    → ordering_then (nat_cmp u v) (ordering_then (bool_cmp i j) (ordering_then (nat_cmp t w) (nat_cmp p q))) ≡ Less
    → Before u v (Before (cond i 1 0) (cond j 1 0) (Before t w (p < q)))
in_words true true u v t w p q h = grind (arith, nat_tests)
in_words true false u v t w p q h = grind (arith, nat_tests)
in_words false true u v t w p q h = grind (arith, nat_tests)
in_words false false u v t w p q h = grind (arith, nat_tests)

-- A higher place q goes first if it beats the lower p, and else p goes first.
beats : (i j : Bool) (u v s t x y p q : ℕ) → p < q
    → cond (cond (eqb v u) (cond j (cond i (ltb y x) false) (cond i true (ltb t s))) (ltb v u))
    (ordering_then (nat_cmp v u) (ordering_then (bool_cmp j i) (ordering_then (nat_cmp (cond j y t) (cond i x s)) (nat_cmp q p))))
    (ordering_then (nat_cmp u v) (ordering_then (bool_cmp i j) (ordering_then (nat_cmp (cond i x s) (cond j y t)) (nat_cmp p q)))) ≡ Less
beats true true u v s t x y p q h = grind (arith, nat_tests)
beats true false u v s t x y p q h = grind (arith, nat_tests)
beats false true u v s t x y p q h = grind (arith, nat_tests)
beats false false u v s t x y p q h = grind (arith, nat_tests)

module _ (leads : List ℕ) (os : List Offer) where
  abbrev pub rank_at : ℕ → Rank
  rank_at p = rank_of p (offer_at os p) (get_or leads p 0)

  -- p goes before q by rank
  unfoldable pub First : ℕ → ℕ → Type 0
  First p q = rank_cmp (rank_at p) (rank_at q) ≡ Less

  pub first-precedes : (p q : ℕ) → First p q → Precedes leads os p q
  unfolding First
  first-precedes p q h = in_words (offer_at os p).incremental (offer_at os q).incremental _ _ _ _ p q h

  pub first-trans : (p q r : ℕ) → First p q → First q r → First p r
  unfolding First
  first-trans p q r = rank_cmp_total.trans (rank_at p) (rank_at q) (rank_at r)

  either : (p q : ℕ) → p < q → cond (beats_at leads os q p) (rank_cmp (rank_at q) (rank_at p)) (rank_cmp (rank_at p) (rank_at q)) ≡ Less
  either p q h =
      let a = offer_at os p in
      let b = offer_at os q in
      beats a.incremental b.incremental a.urgency b.urgency a.stream b.stream (get_or leads p 0) (get_or leads q 0) p q h

  -- a higher place goes first if it beats the lower, and else the lower stays first
  pub goes : (p q : ℕ) → p < q → beats_at leads os q p ≡ true → First q p
  unfolding First
  goes p q h e = subst (λ b. cond b (rank_cmp (rank_at q) (rank_at p)) (rank_cmp (rank_at p) (rank_at q)) ≡ Less) e (either p q h)

  pub stays : (p q : ℕ) → p < q → beats_at leads os q p ≡ false → First p q
  unfolding First
  stays p q h e = subst (λ b. cond b (rank_cmp (rank_at q) (rank_at p)) (rank_cmp (rank_at p) (rank_at q)) ≡ Less) e (either p q h)
