use Rattle.std.proofs.Common.{codes, refl, rules, tests}
use Rattle.std.proofs.lemmas.Iterator.{YieldsList-from_range}
use Rattle.std.proofs.lemmas.Iterator.Search.{find_from_yields_List}
use Rattle.hpack.specs.Responses.{is_field}
use Rattle.tables.specs.StaticTable.{static_entry}
use Rattle.hpack.proofs.Statuses.{only_there}
use Rattle.hpack.proofs.response.status_index.Goals as goal

pub returns-clause-value : goal.returns-clause-value
returns-clause-value c =
    only_there c.args.digits.now c.find.result
    (find_from_yields_List (λ i. is_field (static_entry i) (codes ":status", c.args.digits.now)) _ _ c.find.result c.find.ensures.ran (YieldsList-from_range 8 15 7 refl refl) (λ x b q k. search (rules, tests)))
