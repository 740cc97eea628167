-- What the phase of a connection says.
use Rattle.std.specs.Prelude.{Bool, true, false}
use Rattle.state.specs.declared.streams.Phase.{Phase}
use Rattle.state.specs.declared.streams.Phase.TheVariants.{Open, Shut, Ended}

-- Is no new stream taken?
abbrev pub is_shut : Phase → Bool
is_shut Open = false
is_shut Shut = true
is_shut Ended = false

-- Is nothing read any more?
abbrev pub has_ended : Phase → Bool
has_ended Open = false
has_ended Shut = false
has_ended Ended = true
