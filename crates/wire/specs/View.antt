-- What the code's answers and orders say, with lists in place of what they borrow.
use Rattle.std.specs.Prelude.{ℕ, Bool, List}
use Rattle.frames.specs.View.{Said, said}
use Rattle.frames.specs.declared.code.ErrorCode.{ErrorCode}
use Rattle.wire.specs.declared.outgoing.Outgoing.{Outgoing}
use Rattle.wire.specs.declared.outgoing.Outgoing.TheVariants as out
use Rattle.wire.specs.declared.read.Read.{Read}

-- a frame that was read: what it says, and how many octets it has
abbrev pub read_view : Read → Said × ℕ
read_view r = (said r.frame, r.length)

-- a frame that is to be written
pub data Sent : Type 0 where
  sends_settings : Sent
  sends_settings_ack : Sent
  sends_ping_ack : (octets : List ℕ) → Sent
  sends_rst_stream : (stream : ℕ) (code : ErrorCode) → Sent
  sends_window_update : (stream increment : ℕ) → Sent
  sends_goaway : (last : ℕ) (code : ErrorCode) → Sent
  sends_headers : (stream : ℕ) (block : List ℕ) (end-stream : Bool) → Sent
  sends_data : (stream n : ℕ) (end-stream : Bool) → Sent

abbrev pub sent : Outgoing → Sent
sent out.Settings = sends_settings
sent out.SettingsAck = sends_settings_ack
sent (out.PingAck o) = sends_ping_ack o
sent (out.RstStream s c) = sends_rst_stream s c
sent (out.WindowUpdate s n) = sends_window_update s n
sent (out.GoAway l c) = sends_goaway l c
sent (out.Headers s b e) = sends_headers s b.now e
sent (out.DataHeader s n e) = sends_data s n e
