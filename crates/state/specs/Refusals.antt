-- Refusals: the number of each, and the one that stands for a frame that could not be cut.
use Rattle.std.specs.Prelude.{ℕ}
use Rattle.frames.specs.declared.cut.Refusal.{Refusal as CutRefusal}
use Rattle.frames.specs.declared.cut.Refusal.TheVariants as cut
use Rattle.state.specs.declared.refusal.Refusal.{Refusal}
use Rattle.state.specs.declared.refusal.Refusal.TheVariants.{GreetingLength, Greeting, Ended, RepliesWaiting, Incomplete}

abbrev pub refusal_number : Refusal → ℕ
refusal_number GreetingLength = 10
refusal_number Greeting = 11
refusal_number Ended = 20
refusal_number RepliesWaiting = 21
refusal_number Incomplete = 22

abbrev pub refusal_of : CutRefusal → Refusal
refusal_of cut.Incomplete = Incomplete
