-- Which place leashed urgency picks, in words: the one that precedes every other eligible place.
use Rattle.std.specs.Prelude.{◌≡◌, ℕ, ◌<◌, ◌≤◌, true, false, Bool, cond, ◌⊎◌, List, Some, None, Option, ◌==◌, ◌≢◌, nat_lt, slice_index}
use Rattle.scheduler.specs.declared.offer.Offer.{Offer}
use Rattle.scheduler.specs.declared.urgency.Rank.{Rank}
use Rattle.scheduler.specs.Offers.{octets_at, offer_at, Offering, Quiet}
use Rattle.scheduler.specs.Urgencies.{eligible, lessened}

-- m is less than n, or the two are alike and the next rule decides.
abbrev pub Before : ℕ → ℕ → Type 0 → Type 0
Before m n next = (m < n) ⊎ ((m ≡ n) × next)

-- Non-incremental is 0, incremental 1.
abbrev pub flag : Offer → ℕ
flag o = cond o.incremental 1 0

-- What ranks two offers of one urgency and one flag: the stream, or the lead of incremental ones.
abbrev pub tie : Offer → ℕ → ℕ
tie o lead = cond o.incremental lead o.stream

-- What ranks a place with an offer at a lead.
abbrev pub rank_of : ℕ → Offer → ℕ → Rank
rank_of place o lead = record { urgency = o.urgency; incremental = o.incremental; tie = tie o lead; place = place }

-- Whether rank a goes before rank b of a lower place: by urgency, flag and tie; b stays first where these are alike.
abbrev pub outranks : Rank → Rank → Bool
outranks a b =
    cond (a.urgency == b.urgency)
    (cond a.incremental (cond b.incremental (nat_lt a.tie b.tie) false) (cond b.incremental true (nat_lt a.tie b.tie)))
    (nat_lt a.urgency b.urgency)

-- The first of the best rank of the lower places, if any, and rank a of a higher place.
abbrev pub first_rank : Option Rank → Rank → Rank
first_rank None a = a
first_rank (Some b) a = cond (outranks a b) a b

-- Place p goes before place q: by urgency number, flag, tie and place, in this order.
abbrev pub Precedes : List ℕ → List Offer → ℕ → ℕ → Type 0
Precedes leads os p q =
    Before (offer_at os p).urgency (offer_at os q).urgency
    (Before (flag (offer_at os p)) (flag (offer_at os q)) (Before (tie (offer_at os p) (slice_index leads p)) (tie (offer_at os q) (slice_index leads q)) (p < q)))

-- Place k is eligible, and precedes every other eligible place below n.
abbrev pub Best : List ℕ → List Offer → ℕ → ℕ → Type 0
Best leads os n k =
    (k < n) × (eligible leads os k ≡ true) × ((p : ℕ) → p < n → eligible leads os p ≡ true → (p ≢ k) → Precedes leads os k p)

-- The best of the eligible places below n, if there is one.
abbrev pub ChosenIs : List ℕ → List Offer → ℕ → Option ℕ → Type 0
ChosenIs leads os n None = (k : ℕ) → k < n → eligible leads os k ≡ false
ChosenIs leads os n (Some k) = Best leads os n k

-- The least lead of the offering places below n, if any offers.
abbrev pub LeastIs : List ℕ → List Offer → ℕ → Option ℕ → Type 0
LeastIs leads os n None = (k : ℕ) → k < n → octets_at os k ≡ 0
LeastIs leads os n (Some m) =
    ((k : ℕ) → k < n → Offering os k → m ≤ slice_index leads k) × ((k : ℕ) × (k < n) × Offering os k × (slice_index leads k ≡ m))

-- A pick is the best place once the least lead of the offering places is taken off all leads.
abbrev pub Foremost : List ℕ → List Offer → Option ℕ → Type 0
Foremost leads os None = Quiet os
Foremost leads os (Some k) = (m : ℕ) × LeastIs leads os 16 (Some m) × Best (lessened leads m) os 16 k
