use Rattle.std.proofs.Common.{◌≡◌, ℕ, ◌<◌, List, length, refl, subst, rules, arith}
use Rattle.std.proofs.lemmas.List.{get_or_read}
use Rattle.scheduler.specs.Offers.{charge_at}
use Rattle.scheduler.specs.Chosen.{Best}
use Rattle.scheduler.proofs.Bests.{may-place}
use Rattle.scheduler.proofs.Urgents.{some-chosen, exact-some, urgent-repaid, urgent-low}
use Rattle.scheduler.proofs.urgency.UrgencyScheduler.pick.Goals as goal

pub returns-in_err-place : goal.returns-in_err-place
returns-in_err-place c =
    absurd (some-chosen c.args.self.now.leads c.args.offers.now c.in_ok-least.least c.in_ok-least.ensures.cases (rw c.lowered-leads.ensures at c.in_err-place.ensures.cases))

pub invariant_of-self : goal.invariant_of-self
invariant_of-self c =
    let best = c.in_ok-place.ensures.cases in
    let h : c.in_ok-place.place < length c.lowered-leads.result = omega (arith, best.0) in
    let e : c.charge.result ≡ charge_at c.args.offers.now c.in_ok-place.place = search (rules, get_or_read) in
    record {
      low = urgent-low c.args.self.now.leads c.args.offers.now c.lowered-leads.result c.in_ok-least.least c.in_ok-place.place c.charge.result
          c.lowered-leads.ensures h e c.args.self.now.low (may-place c.lowered-leads.result c.args.offers.now c.in_ok-place.place best.1).1 c.charge.ensures.most;
    }

pub returns : goal.returns
returns c =
    let best = c.in_ok-place.ensures.cases in
    let h : c.in_ok-place.place < length c.lowered-leads.result = omega (arith, best.0) in
    let e : c.charge.result ≡ charge_at c.args.offers.now c.in_ok-place.place = search (rules, get_or_read) in
    record {
      fair = (
        best.0,
        (may-place c.lowered-leads.result c.args.offers.now c.in_ok-place.place best.1).0,
        refl,
        urgent-repaid c.args.self.now.leads c.args.offers.now c.lowered-leads.result c.in_ok-least.least c.in_ok-place.place c.charge.result
            c.lowered-leads.ensures h e c.args.self.now.low c.in_ok-least.ensures.cases,
      );
      value = exact-some c.args.self.now.leads c.args.offers.now c.lowered-leads.result c.in_ok-least.least c.in_ok-place.place c.charge.result
          c.in_ok-least.ensures.value c.lowered-leads.ensures c.in_ok-place.ensures.value e;
      foremost = (c.in_ok-least.least, c.in_ok-least.ensures.cases, subst (λ (low : List ℕ). Best low c.args.offers.now 16 c.in_ok-place.place) c.lowered-leads.ensures best);
    }
