-- What is left of the text, read on from the value so far, is the whole text read.
use Rattle.std.proofs.Common.{◌≡◌, ◌^◌, ◌<◌, drop}
use Rattle.site.specs.Texts.{read_on}
use Rattle.site.proofs.digits.digits.Given as goal

abbrev pub invariant-loop-c : goal.invariant-loop-c
invariant-loop-c l = (read_on l.value (drop l.c-index l.text) ≡ read_on 0 l.text) × (l.value < 10 ^ l.c-index)
