-- One whole frame: whether it may come now, its own rules, and what it does.
use Rattle.std.specs.Prelude.{ℕ, ◌+◌, ◌-◌, Bool, true, false, cond, not, ◌&&◌, ◌||◌, List, [], Some, None, Ok, Err, Option, Result, ◌==◌, nat_lt}
use Rattle.frames.specs.declared.code.ErrorCode.TheVariants.{ProtocolError, FlowControlError}
use Rattle.frames.specs.declared.fault.Fault.{Fault}
use Rattle.frame_header.specs.declared.header.Header.{Header}
use Rattle.frame_header.specs.declared.header.Kind.{Kind}
use Rattle.frame_header.specs.declared.header.Kind.TheVariants as kind
use Rattle.frames.specs.Fault.{connection_fault}
use Rattle.frames.specs.Parse.{acknowledges, parsed}
use Rattle.frames.specs.View.{Said, says_data, says_headers, says_priority, says_rst_stream, says_settings, says_settings_ack, says_ping, says_ping_ack, says_goaway, says_window_update, says_continuation, says_unknown}
use Rattle.state.specs.declared.queue.Reply.TheVariants.{PingAck}
use Rattle.state.specs.declared.streams.OpenBlock.{OpenBlock}
use Rattle.state.specs.declared.streams.Streams.{Streams}
use Rattle.state.specs.Setters.{with_started, with_block, with_window, with_owed}
use Rattle.tables.specs.DynamicTable.{Dynamic}
use Rattle.reading.specs.declared.meeting.Arrival.TheVariants as arrival
use Rattle.reading.specs.declared.next.Next.{Next}
use Rattle.reading.specs.declared.next.Next.TheVariants.{Done, Replies}
use Rattle.reading.specs.Meeting.{arrived}
use Rattle.reading.specs.Settings.{settings_read}
use Rattle.reading.specs.Blocks.{fragment_read}

-- DATA: the whole payload is within what is left of the connection's receiving window of 65,535, and is counted, also if
-- its stream has left or is then at fault.
abbrev pub data_read : Streams → ℕ → List ℕ → ℕ → Bool → Result Next Fault × Streams
data_read c stream octets counted end =
    cond (nat_lt (65535 - c.owed) counted) (Err (connection_fault FlowControlError stream), c)
    (arrived (with_owed c (c.owed + counted)) stream (arrival.Data counted end) octets)

-- The connection's sending window may not pass 2^31 - 1. (An increment of 0 there is a fault of the frame by itself.)
abbrev pub connection_credited : Streams → ℕ → Result Next Fault × Streams
connection_credited c increment =
    cond (nat_lt 2147483647 (c.window + increment)) (Err (connection_fault FlowControlError 0), c)
    (Ok Done, with_window c (c.window + increment))

-- WINDOW_UPDATE.
abbrev pub credit_read : Streams → ℕ → ℕ → Result Next Fault × Streams
credit_read c stream increment =
    cond (not (stream == 0)) (arrived c stream (arrival.Credit increment) []) (connection_credited c increment)

-- HEADERS begin a block, of which no octet came before.
abbrev pub block_begun : ℕ → Bool → OpenBlock
block_begun stream end = record { stream = stream; end_stream = end }

abbrev pub continued : Streams → Dynamic → Option OpenBlock → List ℕ → Bool → Result Next Fault × Streams × Dynamic
continued c t None fragment last = (Ok Done, c, t)
continued c t (Some b) fragment last = fragment_read c t b fragment last

-- Only field blocks touch the table.
abbrev pub beside : Dynamic → Result Next Fault × Streams → Result Next Fault × Streams × Dynamic
beside t r = (r.0, r.1, t)

-- What a frame does. PRIORITY, GOAWAY, acknowledgements and unknown types do nothing.
abbrev pub acted : Streams → Dynamic → Said → Result Next Fault × Streams × Dynamic
acted c t (says_data stream octets counted end) = beside t (data_read c stream octets counted end)
acted c t (says_headers stream fragment last end) = fragment_read (with_block c []) t (block_begun stream end) fragment last
acted c t (says_priority stream) = (Ok Done, c, t)
acted c t (says_rst_stream stream code) = beside t (arrived c stream arrival.Reset [])
acted c t (says_settings list) = beside t (settings_read c list)
acted c t says_settings_ack = (Ok Done, c, t)
acted c t (says_ping octets) = (Ok (Replies (PingAck octets)), c, t)
acted c t (says_ping_ack octets) = (Ok Done, c, t)
acted c t (says_goaway last code debug) = (Ok Done, c, t)
acted c t (says_window_update stream increment) = beside t (credit_read c stream increment)
acted c t (says_continuation stream fragment last) = continued c t c.open_block fragment last
acted c t (says_unknown kind stream) = (Ok Done, c, t)

abbrev pub is_settings : Kind → Bool
is_settings kind.Data = false
is_settings kind.Headers = false
is_settings kind.Priority = false
is_settings kind.RstStream = false
is_settings kind.Settings = true
is_settings kind.PushPromise = false
is_settings kind.Ping = false
is_settings kind.GoAway = false
is_settings kind.WindowUpdate = false
is_settings kind.Continuation = false
is_settings (kind.Unknown n) = false

abbrev pub is_continuation : Kind → Bool
is_continuation kind.Data = false
is_continuation kind.Headers = false
is_continuation kind.Priority = false
is_continuation kind.RstStream = false
is_continuation kind.Settings = false
is_continuation kind.PushPromise = false
is_continuation kind.Ping = false
is_continuation kind.GoAway = false
is_continuation kind.WindowUpdate = false
is_continuation kind.Continuation = true
is_continuation (kind.Unknown n) = false

-- The first frame is SETTINGS without ACK.
abbrev pub first_fits : Bool → Header → Bool
first_fits started h = started || (is_settings h.kind && not (acknowledges h))

-- While a block is open only CONTINUATION on its stream may come, and CONTINUATION comes only then.
abbrev pub block_fits : Option OpenBlock → Header → Bool
block_fits None h = not (is_continuation h.kind)
block_fits (Some b) h = is_continuation h.kind && h.stream == b.stream

abbrev pub may_come : Streams → Header → Bool
may_come c h = first_fits c.started h && block_fits c.open_block h

abbrev pub parsed_acted : Streams → Dynamic → Result Said Fault → Result Next Fault × Streams × Dynamic
parsed_acted c t (Err fault) = (Err fault, c, t)
parsed_acted c t (Ok frame) = acted c t frame

-- One whole frame: the first frame and the open block, then the checks of its type, then what it does.
abbrev pub frame_read : Streams → Dynamic → Header → List ℕ → Result Next Fault × Streams × Dynamic
frame_read c t h payload =
    cond (may_come c h) (parsed_acted (with_started c true) t (parsed h payload c.seen))
    (Err (connection_fault ProtocolError h.stream), c, t)
