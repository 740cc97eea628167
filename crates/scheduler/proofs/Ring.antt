-- Steps round the ring of sixteen places.
use Rattle.std.proofs.Common.{◌≡◌, ℕ, ◌+◌, ◌-◌, ◌<◌, ◌%◌, cond, ltb, arith}
use Rattle.std.proofs.lemmas.Bool.Decides.{nat_tests}
use Rattle.scheduler.specs.Rounds.{following}
use Rattle.scheduler.specs.Debts.{back}

pub next_below : (p : ℕ) → p < 16 → following p < 16
unfolding following
next_below p h = grind (arith, nat_tests)

-- Place r, round the ring, follows the one before.
pub following_ring : (r k : ℕ) → 0 < r → k ≡ r % 16 → k ≡ following ((r - 1) % 16)
unfolding following
following_ring r k past at = grind (arith, nat_tests)

-- The steps on from place p to place k.
unfoldable pub forth : ℕ → ℕ → ℕ
forth p k = cond (ltb p k) (k - p) (k + 16 - p)

-- 1 if, going on from i, place p is met before j: i had its turn after j.
unfoldable pub after : ℕ → ℕ → ℕ → ℕ
after i j p = cond (ltb (back p i) (back j i)) 1 0
