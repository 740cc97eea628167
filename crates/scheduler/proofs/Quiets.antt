-- Whether all offers are 0.
use Rattle.std.proofs.Common.{◌≡◌, ℕ, ◌<◌, true, false, eqb, List, Decides, sym, refl, arith}
use Rattle.std.proofs.lemmas.Bool.Decides.{nat_tests, Decides-below_and, Decides-eqb}
use Rattle.scheduler.specs.declared.offer.Offer.{Offer}
use Rattle.scheduler.specs.Offers.{octets_at, Offering}
use Rattle.scheduler.specs.Rounds.{quiet_below}

quiet_decides : (os : List Offer) (n : ℕ) → Decides (quiet_below os n) ((k : ℕ) → k < n → octets_at os k ≡ 0)
unfolding quiet_below
quiet_decides os n = Decides-below_and (λ k. eqb (octets_at os k) 0) (λ k. octets_at os k ≡ 0) (quiet_below os) (λ k. Decides-eqb (octets_at os k) 0) refl (λ _. refl) n

pub quiet_yes : (os : List Offer) → ((k : ℕ) → k < 16 → octets_at os k ≡ 0) → true ≡ quiet_below os 16
quiet_yes os all = sym ((quiet_decides os 16).1 all)

pub quiet_no : (os : List Offer) (k : ℕ) → k < 16 → Offering os k → false ≡ quiet_below os 16
quiet_no os k h off = grind (arith, nat_tests, (quiet_decides os 16).0)
