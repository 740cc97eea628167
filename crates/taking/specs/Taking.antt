-- All of `take` but for the site.
use Rattle.std.specs.Prelude.{ℕ, ◌+◌, cond, List, [], ◌∷◌, ◌++◌, length, replicate, Some, None, Ok, Err, Option, Result, nat_le}
use Rattle.frames.specs.declared.code.ErrorCode.{ErrorCode}
use Rattle.frames.specs.declared.fault.Fault.{Fault}
use Rattle.frames.specs.declared.fault.Scope.{Scope}
use Rattle.frames.specs.declared.fault.Scope.TheVariants.{Connection, Stream}
use Rattle.frame_header.specs.declared.header.Header.{Header}
use Rattle.frames.specs.Cut.{cut_of}
use Rattle.frames.specs.declared.cut.Unread.{Unread}
use Rattle.frames.specs.declared.cut.Unread.TheVariants.{Refused, Faulty}
use Rattle.request.specs.declared.record.Record.{Record}
use Rattle.state.specs.declared.engine.Core.{Core}
use Rattle.state.specs.declared.streams.Phase.TheVariants.{Ended}
use Rattle.state.specs.declared.queue.Reply.{Reply}
use Rattle.state.specs.declared.queue.Reply.TheVariants.{RstStream}
use Rattle.state.specs.declared.refusal.Refusal.{Refusal}
use Rattle.state.specs.declared.refusal.Refusal.TheVariants as refusal
use Rattle.state.specs.declared.streams.Streams.{Streams}
use Rattle.state.specs.Phases.{has_ended}
use Rattle.state.specs.Refusals.{refusal_of}
use Rattle.state.specs.Setters.{with_places, with_streams, with_queue, with_goaway, with_phase}
use Rattle.tables.specs.DynamicTable.{Dynamic}
use Rattle.taking.specs.declared.ending.Asks.{Asks}
use Rattle.reading.specs.declared.meeting.Arrival.TheVariants.{Reset}
use Rattle.reading.specs.declared.next.Next.{Next}
use Rattle.reading.specs.declared.next.Next.TheVariants.{Done, Replies, Ends}
use Rattle.taking.specs.declared.taking.Step.{Step}
use Rattle.reading.specs.Meeting.{arrived}
use Rattle.reading.specs.Acting.{frame_read}
use Rattle.taking.specs.Ending.{request_ended}

-- A reply behind those that wait.
abbrev pub queued : List Reply → Reply → List Reply
queued q reply = q ++ reply ∷ []

abbrev pub emptied : List Reply
emptied = []

-- A fault of the connection frees all places, drops the replies and any unsent GOAWAY, makes GOAWAY with its code due, and
-- ends the connection.
abbrev pub connection_ended : Core → ErrorCode → Core
connection_ended c code =
    with_goaway (with_queue (with_streams c (with_phase (with_places c.streams (replicate 16 None)) Ended)) emptied) (Some code)

-- A fault of a stream frees its place, if it has one, and queues RST_STREAM with its code.
abbrev pub stream_failed : Core → ErrorCode → ℕ → Core
stream_failed c code stream =
    with_queue (with_streams c (arrived c.streams stream Reset []).1) (queued c.queue (RstStream stream code))

abbrev pub failed : Core → Scope → Fault → Core
failed c Connection fault = connection_ended c fault.code
failed c Stream fault = stream_failed c fault.code fault.place

abbrev pub step_of : ℕ → Option Fault → Option Asks → Step
step_of octets fault asks = record { read = record { octets = octets; fault = fault }; asks = asks }

-- A fault of the connection answers 0 octets; a fault of a stream has read its frame.
abbrev pub octets_at : Scope → ℕ → ℕ
octets_at Connection read = 0
octets_at Stream read = read

abbrev pub finished : ℕ → Option Asks × Core × List Record → Step × Core × List Record
finished read e = (step_of read None e.0, e.1, e.2)

-- What is left to do after a frame's own rules. The book is touched only where a request ends without a fault.
abbrev pub concluded : Core → Result Next Fault → ℕ → List Record → Step × Core × List Record
concluded c (Ok Done) read book = (step_of read None None, c, book)
concluded c (Ok (Replies reply)) read book = (step_of read None None, with_queue c (queued c.queue reply), book)
concluded c (Ok (Ends k)) read book = finished read (request_ended c k book)
concluded c (Err fault) read book = (step_of (octets_at fault.scope read) (Some fault) None, failed c fault.scope fault, book)

abbrev pub with_table : Dynamic → Step × Core × List Record → Step × Core × Dynamic × List Record
with_table t s = (s.0, s.1, t, s.2)

abbrev pub after_frame : Core → Result Next Fault × Streams × Dynamic → ℕ → List Record → Step × Core × Dynamic × List Record
after_frame c r read book = with_table r.2 (concluded (with_streams c r.1) r.0 read book)

-- One whole frame: its own rules, then what is left to do.
abbrev pub framed : Core → Dynamic → Header → List ℕ → List Record → Step × Core × Dynamic × List Record
framed c t h payload book = after_frame c (frame_read c.streams t h payload) (9 + length payload) book

abbrev pub stepped_ok : Step × Core × Dynamic × List Record → Result Step Refusal × Core × Dynamic × List Record
stepped_ok s = (Ok s.0, s.1, s.2, s.3)

-- What stands at the front of the octets: no whole frame is refused, and a length field above 16,384 is a fault of the
-- connection before anything else is asked of the frame.
abbrev pub stepped_piece : Core → Dynamic → Result (Header × List ℕ) Unread → List Record → Result Step Refusal × Core × Dynamic × List Record
stepped_piece c t (Err (Refused r)) book = (Err (refusal_of r), c, t, book)
stepped_piece c t (Err (Faulty fault)) book = stepped_ok (with_table t (concluded c (Err fault) 0 book))
stepped_piece c t (Ok p) book = stepped_ok (framed c t p.0 p.1 book)

-- The questions in order; a refusal leaves everything as it was.
abbrev pub stepped : Core → Dynamic → List ℕ → List Record → Result Step Refusal × Core × Dynamic × List Record
stepped c t octets book =
    cond (has_ended c.streams.phase) (Err refusal.Ended, c, t, book)
    (cond (nat_le 32 (length c.queue)) (Err refusal.RepliesWaiting, c, t, book)
    (stepped_piece c t (cut_of octets) book))
