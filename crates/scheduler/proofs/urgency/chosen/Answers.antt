use Rattle.std.proofs.Common.{◌≡◌, rules, Some, sym, ap, ◌∙◌, subst, arith}
use Rattle.std.specs.Option.{option_map}
use Rattle.std.proofs.lemmas.List.{get_or_read}
use Rattle.scheduler.specs.Urgencies.{eligible, best}
use Rattle.scheduler.specs.Chosen.{first_rank, ChosenIs}
use Rattle.scheduler.proofs.Bests.{chosen-holds}
use Rattle.scheduler.proofs.Orders.{rank_at}
use Rattle.scheduler.proofs.Ranks.{rank_none, rank-takes, rank-skips, place-best}
use Rattle.scheduler.proofs.urgency.chosen.Goals as goal
use Rattle.scheduler.proofs.urgency.chosen.Goals.{then-may, else-may}

pub loop-place-init : goal.loop-place-init
loop-place-init c = rank_none c.args.leads.now c.args.offers.now

pub loop-place-preserved : goal.loop-place-preserved
loop-place-preserved c =
    let ls = c.args.leads.now in
    let os = c.args.offers.now in
    let k = c.loop-place.place in
    let first = c.loop-place.first in
    let fits : eligible ls os k ≡ c.may.result = search (rules, get_or_read) in
    elim c.if-may.branch [
      | then-may w ↦ (let rank : w.new.result ≡ rank_at ls os k = search (rules, get_or_read) in
          w.first-is ∙ ap Some (w.or.ensures ∙ ap (first_rank first) rank) ∙ rank-takes ls os k first c.loop-place.invariant (fits ∙ w.if-may.true))
      | else-may w ↦ w.first-is ∙ rank-skips ls os k first c.loop-place.invariant (fits ∙ w.if-may.false)
    ]

pub returns : goal.returns
returns c =
    let ls = c.args.leads.now in
    let os = c.args.offers.now in
    let all : c.loop-place.place ≡ 16 = omega arith in
    let place : c.map.result ≡ option_map (λ r. r.place) c.loop-place.first = search rules in
    let value = place ∙ place-best ls os c.loop-place.place c.loop-place.first c.loop-place.invariant ∙ ap (best ls os) all in
    record { value = value; cases = subst (ChosenIs ls os 16) (sym value) (chosen-holds ls os 16) }
