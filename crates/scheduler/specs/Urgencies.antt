-- Leashed urgency, step by step: the place it picks, and the leads afterwards.
use Rattle.std.specs.Prelude.{ℕ, zero, suc, ◌+◌, ◌-◌, min, Bool, true, false, cond, ◌&&◌, List, map, Some, None, Option, ◌==◌, nat_le, nat_lt, slice_index, slice_set}
use Rattle.scheduler.specs.declared.offer.Offer.{Offer}
use Rattle.scheduler.specs.Offers.{charge_at, octets_at, offer_at}

-- B, the leash: a place with a larger lead is not picked.
abbrev pub leash : ℕ
leash = 3440640

-- The lesser of the least so far, if any, and x.
abbrev pub lesser : Option ℕ → ℕ → Option ℕ
lesser None x = Some x
lesser (Some y) x = Some (min y x)

-- The least lead of the offering places below n.
unfoldable pub least_lead : List ℕ → List Offer → ℕ → Option ℕ
least_lead leads os zero = None
least_lead leads os (suc n) =
    cond (nat_lt 0 (octets_at os n)) (lesser (least_lead leads os n) (slice_index leads n)) (least_lead leads os n)

-- All leads less m, not below 0.
abbrev pub lessened : List ℕ → ℕ → List ℕ
lessened leads m = map (λ x. x - m) leads

-- Whether an offer a at the lead x goes before an offer b at the lead y: by the lesser urgency number,
-- then non-incremental before incremental, then by the lower stream, or the lesser lead of incremental ones.
abbrev pub beats : Offer → ℕ → Offer → ℕ → Bool
beats a x b y =
    cond (a.urgency == b.urgency)
    (cond a.incremental (cond b.incremental (nat_lt x y) false) (cond b.incremental true (nat_lt a.stream b.stream)))
    (nat_lt a.urgency b.urgency)

abbrev pub beats_at : List ℕ → List Offer → ℕ → ℕ → Bool
beats_at leads os p q = beats (offer_at os p) (slice_index leads p) (offer_at os q) (slice_index leads q)

-- The best so far, if any, against a higher place p, which must beat it.
abbrev pub better : List ℕ → List Offer → Option ℕ → ℕ → Option ℕ
better leads os None p = Some p
better leads os (Some q) p = Some (cond (beats_at leads os p q) p q)

-- Whether a place offers and is within the leash.
abbrev pub eligible : List ℕ → List Offer → ℕ → Bool
eligible leads os p = nat_lt 0 (octets_at os p) && nat_le (slice_index leads p) leash

-- The best of the eligible places below n.
unfoldable pub best : List ℕ → List Offer → ℕ → Option ℕ
best leads os zero = None
best leads os (suc n) = cond (eligible leads os n) (better leads os (best leads os n) n) (best leads os n)

-- The place picked of the leads low, and its charge added to its lead.
abbrev pub served : List ℕ → List Offer → List ℕ → Option ℕ → Option ℕ × List ℕ
served leads os low None = (None, leads)
served leads os low (Some k) = (Some k, slice_set low k (slice_index low k + charge_at os k))

abbrev pub picked_less : List ℕ → List Offer → Option ℕ → Option ℕ × List ℕ
picked_less leads os None = (None, leads)
picked_less leads os (Some m) = served leads os (lessened leads m) (best (lessened leads m) os 16)

-- A pick at leads: the least lead of the offering places is taken off all leads, and the best place is served.
abbrev pub urgency_pick : List ℕ → List Offer → Option ℕ × List ℕ
urgency_pick leads os = picked_less leads os (least_lead leads os 16)
