use Rattle.std.proofs.Common.{rules, tests, ◌≡◌, ◌+◌, ◌-◌, ◌<◌, ◌≤◌, ◌%◌, get_or, arith, ◌∙◌}
use Rattle.std.proofs.iter.Serving.{serving}
use Rattle.std.proofs.lemmas.Grind.{common_steps}
use Rattle.std.proofs.lemmas.List.{get_or_read}
use Rattle.scheduler.specs.Offers.{Offering, octets_at, charge_at, largest}
use Rattle.scheduler.proofs.Walks.{round_takes, round_passes, round_is, round_ends}
use Rattle.scheduler.proofs.drr.walk.Goals as goal

pub returns-then-has_octets : goal.returns-then-has_octets
returns-then-has_octets c =
    let os = c.args.offers.now in
    let bs = c.loop-place.balances in
    let k = c.in-Some.place in
    let r = c.loop-place.place-iterator.iter.start in
    let at : k ≡ r % 16 = search rules in
    let off : Offering os k = search (rules, tests, get_or_read) in
    let left : c.paid.result ≡ get_or bs k 0 + largest - charge_at os k = search (rules, get_or_read) in
    let value = round_takes os (c.args.start + 17 - r) bs r k c.paid.result (search rules) (search rules) at off left ∙ c.loop-place.invariant.7 in
    record { value = value; cases = round_is os c.args.balances.now c.args.start _ _ c.requires.0 (omega arith) c.requires.1 value }

pub loop-place-preserved : goal.loop-place-preserved
loop-place-preserved c =
    let os = c.args.offers.now in
    let bs = c.loop-place.balances in
    let k = c.in-Some.place in
    let r = c.loop-place.place-iterator.iter.start in
    let at : k ≡ r % 16 = search rules in
    let none : octets_at os k ≤ 0 = search (rules, tests, get_or_read) in
    let next : c.next.new.self.iter.start ≡ r + 1 = search rules in
    let more : r < c.args.start + 17 = search rules in (
      grind serving,
      search rules,
      search rules,
      search rules,
      search rules,
      search rules,
      grind (arith, common_steps),
      round_passes os (c.args.start + 17 - r) _ bs r k _ (omega arith) (search rules) at (omega arith) none ∙ c.loop-place.invariant.7,
    )

pub returns : goal.returns
returns c =
    let os = c.args.offers.now in
    let done : c.loop-place.place-iterator.iter.start ≡ c.args.start + 17 = search rules in
    let value = round_ends os (c.args.start + 17 - c.loop-place.place-iterator.iter.start) c.loop-place.balances _ (omega arith) ∙ c.loop-place.invariant.7 in
    record { value = value; cases = round_is os c.args.balances.now c.args.start _ _ c.requires.0 (omega arith) c.requires.1 value }
