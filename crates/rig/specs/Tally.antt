-- What a run of picks gave to each place.
use Rattle.std.specs.Prelude.{ℕ, ◌+◌, ◌-◌, max, cond, List, ◌==◌, count_by, fold}
use Rattle.scheduler.specs.declared.pick.Pick.{Pick}

-- how many picks chose the place
abbrev pub frames_of : ℕ → List Pick → ℕ
frames_of place picks = count_by (λ p. p.place == place) picks

-- by how much one place is ahead of another after a further pick; one that falls behind starts anew
abbrev pub lead_after : ℕ → ℕ → ℕ → Pick → ℕ
lead_after place other lead p = cond (p.place == place) (lead + p.charge) (cond (p.place == other) (lead - p.charge) lead)

-- the lead after a further pick, and the most of these leads so far
abbrev pub lead_step : ℕ → ℕ → ℕ × ℕ → Pick → ℕ × ℕ
lead_step place other s p = (lead_after place other s.0 p, max s.1 (lead_after place other s.0 p))

-- the most by which the charge of one place exceeds that of the other over any stretch of the picks
abbrev pub most_ahead : ℕ → ℕ → List Pick → ℕ
most_ahead place other picks = (fold (lead_step place other) (0, 0) picks).1
