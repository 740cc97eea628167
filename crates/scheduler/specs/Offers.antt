-- What an offer costs, and what a row of sixteen offers has at a place.
use Rattle.std.specs.Prelude.{◌≡◌, ℕ, ◌-◌, ◌*◌, ◌/◌, ◌<◌, ◌≤◌, Bool, false, List, Ok, Err, Result, slice_index_or}
use Rattle.std.proofs.Common.{lit≤}
use Rattle.scheduler.specs.declared.offer.Offer.{Offer}
use Rattle.scheduler.specs.declared.offer.OutOfRange.{OutOfRange}
use Rattle.scheduler.specs.declared.offer.OutOfRange.TheVariants.{Octets, Urgency}

-- The charge of n octets at an urgency is n × 840 ÷ (8 − urgency). Each of 1 to 8 divides 840, so nothing is rounded.
abbrev pub charge : ℕ → ℕ → ℕ
charge octets urgency = octets * 840 / (8 - urgency)

-- T, the largest charge of an offer: 1,024 octets at urgency 7.
abbrev pub largest : ℕ
largest = 860160

abbrev pub charge_of : Offer → ℕ
charge_of o = charge o.octets o.urgency

-- An offer is made of octets from 0 to 1,024 and an urgency from 0 to 7; octets out of range are refused first.
abbrev pub Made : ℕ → ℕ → Bool → ℕ → Result Offer OutOfRange → Type 0
Made octets urgency incremental stream (Ok o) =
    (o.octets ≡ octets) × (o.urgency ≡ urgency) × (o.incremental ≡ incremental) × (o.stream ≡ stream)
Made octets urgency incremental stream (Err Octets) = 1024 < octets
Made octets urgency incremental stream (Err Urgency) = (octets ≤ 1024) × (7 < urgency)

-- The offer of a place that has nothing to send.
abbrev pub nothing : Offer
nothing = record { octets = 0; urgency = 0; incremental = false; stream = 0; small = lit≤ tt; ranked = lit≤ tt }

-- Place k of a row of offers.
abbrev pub offer_at : List Offer → ℕ → Offer
offer_at os k = slice_index_or os k nothing

abbrev pub octets_at : List Offer → ℕ → ℕ
octets_at os k = (offer_at os k).octets

abbrev pub charge_at : List Offer → ℕ → ℕ
charge_at os k = charge_of (offer_at os k)

-- A place offers if its octets are not 0.
abbrev pub Offering : List Offer → ℕ → Type 0
Offering os k = 0 < octets_at os k

-- All offers are 0.
abbrev pub Quiet : List Offer → Type 0
Quiet os = (k : ℕ) → k < 16 → octets_at os k ≡ 0
