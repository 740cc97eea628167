-- Deficit round robin, step by step: the place it picks, and its balances and current place afterwards.
use Rattle.std.specs.Prelude.{ℕ, zero, suc, ◌+◌, ◌-◌, Bool, true, cond, ◌&&◌, List, Some, None, Option, ◌==◌, nat_le, nat_lt, slice_index, slice_set}
use Rattle.scheduler.specs.declared.offer.Offer.{Offer}
use Rattle.scheduler.specs.Offers.{charge_at, octets_at, largest}

-- Whether no place below n offers.
unfoldable pub quiet_below : List Offer → ℕ → Bool
quiet_below os zero = true
quiet_below os (suc n) = octets_at os n == 0 && quiet_below os n

-- The step on from a place: 15 steps to 0.
unfoldable pub following : ℕ → ℕ
following p = cond (p == 15) 0 (p + 1)

-- On from place p, over at most n places. A place reached without an offer loses its balance and is stepped off;
-- one with an offer is given T and picked, and pays its charge.
unfoldable pub walk : ℕ → List ℕ → ℕ → List Offer → Option ℕ × List ℕ
walk zero bs p os = (None, bs)
walk (suc n) bs p os =
    cond (nat_lt 0 (octets_at os (following p)))
    (Some (following p), slice_set bs (following p) (slice_index bs (following p) + largest - charge_at os (following p)))
    (walk n (slice_set bs (following p) 0) (following p) os)

-- Whether place p has an offer and its balance covers the charge.
abbrev pub covers : List ℕ → ℕ → List Offer → Bool
covers bs p os = nat_lt 0 (octets_at os p) && nat_le (charge_at os p) (slice_index bs p)

-- The balances as the round leaves place p: with no offer there its balance becomes 0.
abbrev pub leaves : List ℕ → ℕ → List Offer → List ℕ
leaves bs p os = cond (nat_lt 0 (octets_at os p)) bs (slice_set bs p 0)

-- A pick at balances bs and current place p: the place, and the balances afterwards.
abbrev pub drr_pick : List ℕ → ℕ → List Offer → Option ℕ × List ℕ
drr_pick bs p os =
    cond (quiet_below os 16) (None, bs)
    (cond (covers bs p os) (Some p, slice_set bs p (slice_index bs p - charge_at os p)) (walk 16 (leaves bs p os) p os))

-- The current place after a pick is the place picked.
abbrev pub standing : ℕ → Option ℕ → ℕ
standing p None = p
standing p (Some k) = k
