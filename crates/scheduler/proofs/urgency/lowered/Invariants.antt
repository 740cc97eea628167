use Rattle.std.proofs.Common.{◌≡◌, ℕ, ◌-◌, ◌<◌, ◌≤◌, get_or}
use Rattle.scheduler.proofs.urgency.lowered.Given as goal

abbrev pub invariant-loop-lead : goal.invariant-loop-lead
invariant-loop-lead l =
    ((k : ℕ) → k < l.lead-index → get_or l.lead-items k 0 ≡ get_or l.leads k 0 - l.by)
    × ((k : ℕ) → l.lead-index ≤ k → get_or l.lead-items k 0 ≡ get_or l.leads k 0)
