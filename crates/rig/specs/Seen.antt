-- The highest stream that a client has opened.
use Rattle.std.specs.Prelude.{ℕ, max, Ok, Err, Result}
use Rattle.frames.specs.declared.cut.Unread.{Unread}
use Rattle.frames.specs.declared.frame.Frame.{Frame}
use Rattle.frames.specs.declared.frame.Frame.TheVariants as frame
use Rattle.wire.specs.declared.read.Read.{Read}

-- only HEADERS opens a stream
abbrev pub opened : ℕ → Frame → ℕ
opened seen (frame.Data s o n e) = seen
opened seen (frame.Headers s f h e) = max seen s
opened seen (frame.Priority s) = seen
opened seen (frame.RstStream s c) = seen
opened seen (frame.Settings l) = seen
opened seen frame.SettingsAck = seen
opened seen (frame.Ping o) = seen
opened seen (frame.PingAck o) = seen
opened seen (frame.GoAway l c d) = seen
opened seen (frame.WindowUpdate s n) = seen
opened seen (frame.Continuation s f h) = seen
opened seen (frame.Unknown k s) = seen

-- after octets were read: what is refused or at fault changes nothing
abbrev pub seen_after : ℕ → Result Read Unread → ℕ
seen_after seen (Ok read) = opened seen read.frame
seen_after seen (Err unread) = seen
