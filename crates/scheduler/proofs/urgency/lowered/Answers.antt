use Rattle.std.proofs.Common.{◌-◌, ◌<◌, length, sym, ◌∙◌, arith}
use Rattle.std.proofs.lemmas.List.{ext_get_or, get_or-map, length-map}
use Rattle.scheduler.proofs.urgency.lowered.Goals as goal

pub returns : goal.returns
returns c =
    let ls = c.args.leads.now in
    ext_get_or 0 _ _ (simp length-map (omega arith))
    (λ k h. let short : k < length ls = omega arith in c.loop-lead.invariant.0 k (omega arith) ∙ sym (get_or-map (λ x. x - c.args.by) ls k 0 0 short))
