-- What comes for a stream meets the state of the stream's place.
use Rattle.std.specs.Prelude.{ℕ, ◌+◌, ◌-◌, Bool, true, false, cond, List, ◌++◌, length, Some, None, Ok, Err, Option, Result, ◌==◌, nat_lt}
use Rattle.frames.specs.declared.code.ErrorCode.{ErrorCode}
use Rattle.frames.specs.declared.code.ErrorCode.TheVariants.{ProtocolError, FlowControlError, StreamClosed, EnhanceYourCalm}
use Rattle.frames.specs.declared.fault.Fault.{Fault}
use Rattle.frames.specs.Fault.{stream_fault}
use Rattle.state.specs.declared.place.Place.{Place}
use Rattle.state.specs.declared.place.Request.{Request}
use Rattle.state.specs.declared.place.Stage.{Stage}
use Rattle.state.specs.declared.place.Stage.TheVariants.{Receiving, Waiting, Claimed, Sending}
use Rattle.state.specs.declared.streams.Streams.{Streams}
use Rattle.state.specs.Setters.{with_increments, with_stage}
use Rattle.state.specs.Places.{slot_at, with_slot, place_of, sent_of, overflows}
use Rattle.reading.specs.declared.meeting.Arrival.{Arrival}
use Rattle.reading.specs.declared.meeting.Arrival.TheVariants.{Data, Trailers, Credit, Reset}
use Rattle.reading.specs.declared.meeting.Met.{Met}
use Rattle.reading.specs.declared.meeting.Met.TheVariants.{Stays, Ends, Leaves}
use Rattle.reading.specs.declared.next.Next.{Next}
use Rattle.reading.specs.declared.next.Next.TheVariants as next

-- The request with more of its body.
abbrev pub absorbed : Request → List ℕ → ℕ → Request
absorbed r octets counted = record r { body = r.body ++ octets; counted = r.counted + counted }

-- END_STREAM ends the request.
abbrev pub going_on : Bool → Place → Met
going_on true p = Ends p
going_on false p = Stays p

-- DATA for an open request: the whole payload within the stream's receiving window of 65,535, then the body within 256 octets.
abbrev pub received : Place → Request → List ℕ → ℕ → Bool → Result Met ErrorCode
received p r octets counted end =
    cond (nat_lt (65535 - r.counted) counted) (Err FlowControlError)
    (cond (nat_lt 256 (length r.body + length octets)) (Err EnhanceYourCalm)
    (Ok (going_on end (with_stage p (Receiving (absorbed r octets counted))))))

-- Trailers need END_STREAM and no name with a colon.
abbrev pub trailed : Place → Bool → Bool → Result Met ErrorCode
trailed p true false = Ok (Ends p)
trailed p true true = Err ProtocolError
trailed p false colons = Err ProtocolError

-- An increment is not 0, and leaves the sending window at most 2^31 - 1.
abbrev pub credited : Place → ℕ → ℕ → Result Met ErrorCode
credited p initial increment =
    cond (increment == 0) (Err ProtocolError)
    (cond (overflows initial (p.increments + increment) (sent_of p.stage)) (Err FlowControlError)
    (Ok (Stays (with_increments p (p.increments + increment)))))

-- The table of states and arrivals: an ended request takes no DATA and no block, an open one does; increments and
-- RST_STREAM come in any state.
abbrev pub met : Place → Stage → ℕ → Arrival → List ℕ → Result Met ErrorCode
met p (Receiving r) initial (Data counted end) body = received p r body counted end
met p (Waiting n) initial (Data counted end) body = Err StreamClosed
met p Claimed initial (Data counted end) body = Err StreamClosed
met p (Sending r) initial (Data counted end) body = Err StreamClosed
met p (Receiving r) initial (Trailers end colons) body = trailed p end colons
met p (Waiting n) initial (Trailers end colons) body = Err StreamClosed
met p Claimed initial (Trailers end colons) body = Err StreamClosed
met p (Sending r) initial (Trailers end colons) body = Err StreamClosed
met p (Receiving r) initial (Credit increment) body = credited p initial increment
met p (Waiting n) initial (Credit increment) body = credited p initial increment
met p Claimed initial (Credit increment) body = credited p initial increment
met p (Sending r) initial (Credit increment) body = credited p initial increment
met p (Receiving r) initial Reset body = Ok Leaves
met p (Waiting n) initial Reset body = Ok Leaves
met p Claimed initial Reset body = Ok Leaves
met p (Sending r) initial Reset body = Ok Leaves

-- The place afterwards, and what is left to do.
abbrev pub kept : Streams → ℕ → Met → Next × Streams
kept c k (Stays p) = (next.Done, with_slot c k (Some p))
kept c k (Ends p) = (next.Ends k, with_slot c k (Some p))
kept c k Leaves = (next.Done, with_slot c k None)

-- A fault of the stream is told at its number.
abbrev pub kept_unless : Streams → ℕ → ℕ → Result Met ErrorCode → Result Next Fault × Streams
kept_unless c k stream (Ok m) = (Ok (kept c k m).0, (kept c k m).1)
kept_unless c k stream (Err code) = (Err (stream_fault code stream), c)

abbrev pub arrived_in : Streams → ℕ → ℕ → Option Place → Arrival → List ℕ → Result Next Fault × Streams
arrived_in c k stream None came body = (Ok next.Done, c)
arrived_in c k stream (Some p) came body = kept_unless c k stream (met p p.stage c.initial came body)

-- A stream that has left has no place: what comes for it is dropped.
abbrev pub arrived_at : Streams → ℕ → Option ℕ → Arrival → List ℕ → Result Next Fault × Streams
arrived_at c stream None came body = (Ok next.Done, c)
arrived_at c stream (Some k) came body = arrived_in c k stream (slot_at c k) came body

abbrev pub arrived : Streams → ℕ → Arrival → List ℕ → Result Next Fault × Streams
arrived c stream came body = arrived_at c stream (place_of c.places stream) came body
