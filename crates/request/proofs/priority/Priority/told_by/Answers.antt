use Rattle.std.proofs.Common.{rules, tests}
use Rattle.std.proofs.lemmas.Iterator.Consumers.{fold_from_yields_List}
use Rattle.std.proofs.lemmas.Iterator.Splits.{YieldsList-from_slice_split}
use Rattle.request.specs.Priorities.{is_comma, member_told}
use Rattle.request.proofs.priority.Priority.told_by.Goals as goal

pub returns : goal.returns
returns c =
    fold_from_yields_List _ member_told _ _ c.fold.ensures.ran
    (YieldsList-from_slice_split _ is_comma _ c.split.ensures.rest c.split.ensures.done c.split.ensures.closure (λ x b q k. search (rules, tests)))
    (λ a x b q k. search (rules, tests))
