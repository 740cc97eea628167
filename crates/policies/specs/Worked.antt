-- Worked values of the charge and of both schedulers: one theorem about the definitions.
use Rattle.std.specs.Prelude.{◌≡◌, ℕ, zero, suc, ◌≤◌, Bool, List, [], ◌∷◌, ◌++◌, replicate, Some, Option}
use Rattle.std.proofs.Common.{lit≤}
use Rattle.scheduler.specs.declared.offer.Offer.{Offer}
use Rattle.scheduler.specs.Offers.{charge, nothing}
use Rattle.scheduler.specs.Rounds.{drr_pick, standing}
use Rattle.scheduler.specs.Urgencies.{urgency_pick}

-- The answers of n picks at offers that stay, by a step from a state to an answer and the next state.
unfoldable pub answers : {S : Type 0} → (S → Option ℕ × S) → ℕ → S → List (Option ℕ)
answers step zero s = []
answers step (suc n) s = (step s).0 ∷ answers step n (step s).1

-- Deficit round robin from balances and a current place, and urgency from leads.
abbrev pub drr_step : List Offer → List ℕ × ℕ → Option ℕ × (List ℕ × ℕ)
drr_step os s = let r = drr_pick s.0 s.1 os in (r.0, (r.1, standing s.1 r.0))

abbrev pub drr_answers : List Offer → ℕ → List (Option ℕ)
drr_answers os n = answers (drr_step os) n (replicate 16 0, 15)

abbrev pub urgency_answers : List Offer → ℕ → List (Option ℕ)
urgency_answers os n = answers (λ leads. urgency_pick leads os) n (replicate 16 0)

-- A full offer: 1,024 octets at the urgency u.
abbrev pub full : (u : ℕ) → u ≤ 7 → Bool → ℕ → Offer
full u h incremental stream =
    record { octets = 1024; urgency = u; incremental = incremental; stream = stream; small = lit≤ tt; ranked = h }

-- Places 0 and 1 have full offers at the urgencies u and v, on streams 1 and 3; the others offer nothing.
abbrev pub two : (u v : ℕ) → u ≤ 7 → v ≤ 7 → Bool → List Offer
two u v hu hv incremental = full u hu incremental 1 ∷ full v hv incremental 3 ∷ replicate 14 nothing

-- n frames of place k on end.
abbrev pub frames : ℕ → ℕ → List (Option ℕ)
frames n k = replicate n (Some k)

-- 1,024 octets cost 107,520 at urgency 0 and 860,160 at 7. Of two places with full offers, both incremental or both not,
-- deficit round robin at urgencies 3 and 7 picks 5 frames, 1, 5, 1; and urgency at 0 and 7 picks 33, 1, 8, 1, 8, 1.
abbrev pub WorkedValues : Type 0
WorkedValues =
    (charge 1024 0 ≡ 107520)
    × (charge 1024 7 ≡ 860160)
    × ((i : Bool) → drr_answers (two 3 7 (lit≤ tt) (lit≤ tt) i) 12 ≡ frames 5 0 ++ frames 1 1 ++ frames 5 0 ++ frames 1 1)
    × ((i : Bool) → urgency_answers (two 0 7 (lit≤ tt) (lit≤ tt) i) 52 ≡ frames 33 0 ++ frames 1 1 ++ frames 8 0 ++ frames 1 1 ++ frames 8 0 ++ frames 1 1)
