use Rattle.std.proofs.Common.{◌≡◌, Some, ap, ◌∙◌, rules}
use Rattle.frames.specs.Settings.{first_pair, pairs_in}
use Rattle.frames.proofs.Split.{pairs_split}
use Rattle.frames.proofs.settings.SettingsList.split_first.Goals as goal

pub returns-clause-items : goal.returns-clause-items
returns-clause-items c =
    let e : first_pair c.args.self.octets.now ≡ Some (c.from.result, c.in_ok-pair.rest.now) = search rules in
    pairs_split c.args.self.octets.now ∙ ap pairs_in e
