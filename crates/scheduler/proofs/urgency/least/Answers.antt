use Rattle.std.proofs.Common.{◌≡◌, ltb, rules, sym, ap, ◌∙◌, subst, arith}
use Rattle.std.proofs.lemmas.List.{get_or_read}
use Rattle.scheduler.specs.Offers.{octets_at}
use Rattle.scheduler.specs.Urgencies.{least_lead}
use Rattle.scheduler.specs.Chosen.{LeastIs}
use Rattle.scheduler.proofs.Leasts.{least-holds, least_none, least-takes, least-skips}
use Rattle.scheduler.proofs.urgency.least.Goals as goal
use Rattle.scheduler.proofs.urgency.least.Goals.{then-has_octets, else-has_octets}

pub loop-place-init : goal.loop-place-init
loop-place-init c = sym (least_none c.args.leads.now c.args.offers.now)

pub loop-place-preserved : goal.loop-place-preserved
loop-place-preserved c =
    let ls = c.args.leads.now in
    let os = c.args.offers.now in
    let k = c.loop-place.place in
    let has : ltb 0 (octets_at os k) ≡ c.has_octets.result = search (rules, get_or_read) in
    elim c.if-has_octets.branch [
      | then-has_octets w ↦ (let t = least-takes ls os k (has ∙ w.if-has_octets.true) in cc)
      | else-has_octets w ↦ (let t = least-skips ls os k (has ∙ w.if-has_octets.false) in cc)
    ]

pub returns : goal.returns
returns c =
    let ls = c.args.leads.now in
    let os = c.args.offers.now in
    let all : c.loop-place.place ≡ 16 = omega arith in
    let e = c.loop-place.invariant ∙ ap (least_lead ls os) all in
    record { value = e; cases = subst (LeastIs ls os 16) (sym e) (least-holds ls os 16) }
