use Rattle.std.proofs.Common.{length, ap}
use Rattle.std.proofs.iter.runs.Sources.{from_front, as_is}
use Rattle.std.specs.Iterator.{YieldsFirst}
use Rattle.frames.proofs.settings.SettingsList.iter.Goals as goal

pub returns-clause-runs : goal.returns-clause-runs
returns-clause-runs c p s =
    as_is p p.from (from_front (YieldsFirst (λ left. left)) (λ x. x) (λ left. left) (λ a b h. ap length h.0) (λ a x b h. h) p s)
