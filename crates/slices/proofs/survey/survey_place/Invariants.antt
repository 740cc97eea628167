-- The tally is that of what was read from the offset on.
use Rattle.std.proofs.Common.{◌-◌, ◌+◌, length}
use Rattle.slices.specs.Surveys.{ReadTo}
use Rattle.slices.proofs.survey.survey_place.Given as goal

abbrev pub invariant-pieces : goal.invariant-pieces
invariant-pieces g l = ReadTo (g.S.Site.holds l.site l.place) l.offset l.tally

abbrev pub decreases-pieces : goal.decreases-pieces
decreases-pieces g l = length (g.S.Site.holds l.site l.place) - (l.offset + l.tally.count)
