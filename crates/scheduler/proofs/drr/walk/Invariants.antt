use Rattle.std.proofs.Common.{◌≡◌, ℕ, ◌+◌, ◌-◌, ◌<◌, ◌≤◌, ◌%◌, length, get_or}
use Rattle.scheduler.specs.Offers.{largest}
use Rattle.scheduler.specs.Rounds.{walk}
use Rattle.scheduler.proofs.drr.walk.Given as goal

abbrev pub invariant-loop-place : goal.invariant-loop-place
invariant-loop-place l =
    let next = l.place-iterator.iter.start in
    goal.iterator-loop-place.can_next l.place-iterator
    × goal.iterator-loop-place.is_finite l.place-iterator
    × (l.place-iterator.iter.end ≡ l.fn.start + 17)
    × (l.fn.start < next)
    × (next ≤ l.fn.start + 17)
    × (length l.balances ≡ 16)
    × ((k : ℕ) → get_or l.balances k 0 ≤ largest - 1)
    × (walk (l.fn.start + 17 - next) l.balances ((next - 1) % 16) l.offers ≡ walk 16 l.initial.balances l.fn.start l.offers)
