use Rattle.std.proofs.Common.{rules, ◌≡◌, ◌-◌, ◌<◌, length, get_or, true, false, cond, ltb, sym, refl, arith}
use Rattle.std.proofs.lemmas.Bool.{cond-true}
use Rattle.std.proofs.lemmas.List.{get_or_read}
use Rattle.scheduler.specs.Offers.{charge_at, octets_at}
use Rattle.scheduler.specs.Rounds.{quiet_below, covers}
use Rattle.scheduler.specs.Debts.{Kept}
use Rattle.scheduler.proofs.Quiets.{quiet_yes, quiet_no}
use Rattle.scheduler.proofs.Rounds.{covered_repaid, covered_parts, covered_exact, round_exact, left_leaves, left_repaid}
use Rattle.scheduler.proofs.Turns.{reached}
use Rattle.scheduler.proofs.drr.DrrScheduler.pick.Goals as goal

pub returns-then-covered : goal.returns-then-covered
returns-then-covered c =
    let os = c.args.offers.now in
    let s = c.args.self.now in
    let yes : covers s.balances s.current os ≡ true = search (rules, get_or_read) in
    let left : c.paid.result ≡ get_or s.balances s.current 0 - charge_at os s.current = search (rules, get_or_read) in
    let parts = covered_parts os s.balances s.current yes in
    let kept : Kept s.balances s.current = record { within = s.within; low = s.low; here = s.here } in
    let h : s.current < length s.balances = omega arith in
    record {
      fair = (s.within, parts.0, refl, covered_repaid os s.balances s.current c.paid.result kept h left parts.1);
      value = covered_exact os s.balances s.current c.paid.result (sym (quiet_no os s.current s.within parts.0)) yes left;
      after = refl;
      reached = reached _ s.current s.within;
    }

pub returns-in_err-current-clause-value : goal.returns-in_err-current-clause-value
returns-in_err-current-clause-value c =
    let quiet = quiet_yes c.args.offers.now c.in_err-current.ensures.cases in
    rw c.from_residual.ensures (sym (cond-true (quiet_below c.args.offers.now 16) _ _ (sym quiet)))

pub returns-in_err-current-clause-reached : goal.returns-in_err-current-clause-reached
returns-in_err-current-clause-reached c = reached c.args.self.now.balances c.args.self.now.current c.args.self.now.within

pub returns : goal.returns
returns c =
    let os = c.args.offers.now in
    let s = c.args.self.now in
    let k = c.in_ok-current.current in
    let cases = c.in_ok-current.ensures.cases in
    let h : s.current < length s.balances = omega arith in
    let no : covers s.balances s.current os ≡ false = search (rules, get_or_read) in
    let kept : c.left.result ≡ cond (ltb 0 (octets_at os s.current)) (get_or s.balances s.current 0) 0 = search (rules, get_or_read) in
    let left = left_leaves os s.balances s.current c.left.result h kept in
    record {
      fair = (cases.0, cases.1, refl, left_repaid os s.balances _ c.walk.new.balances s.current k h left cases.3);
      value = round_exact os s.balances _ s.current _ c.walk.new.balances (sym (quiet_no os k cases.0 cases.1)) no left c.in_ok-current.ensures.value;
      after = refl;
      reached = reached c.walk.new.balances k cases.0;
    }
