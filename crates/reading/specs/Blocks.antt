-- Field blocks: HEADERS and CONTINUATION.
use Rattle.std.specs.Prelude.{ℕ, ◌+◌, Bool, cond, List, [], ◌++◌, length, Some, None, Ok, Err, Option, Result, nat_le, nat_lt}
use Rattle.frames.specs.declared.code.ErrorCode.TheVariants.{ProtocolError, RefusedStream, CompressionError, EnhanceYourCalm}
use Rattle.frames.specs.declared.fault.Fault.{Fault}
use Rattle.frames.specs.Fault.{connection_fault, stream_fault}
use Rattle.tables.specs.DynamicTable.{Dynamic}
use Rattle.request.specs.declared.heard.Head.{Head}
use Rattle.request.specs.declared.heard.Heard.{Heard}
use Rattle.request.specs.declared.heard.Malformed.{Malformed}
use Rattle.request.specs.Requests.{block_read}
use Rattle.state.specs.declared.place.Place.{Place}
use Rattle.state.specs.declared.place.Stage.TheVariants.{Receiving}
use Rattle.state.specs.declared.streams.OpenBlock.{OpenBlock}
use Rattle.state.specs.declared.streams.Streams.{Streams}
use Rattle.state.specs.Setters.{with_open_block, with_block, with_seen, with_accepted}
use Rattle.state.specs.Phases.{is_shut}
use Rattle.state.specs.Places.{with_slot, place_of, lowest_free}
use Rattle.reading.specs.declared.next.Next.{Next}
use Rattle.reading.specs.declared.next.Next.TheVariants.{Done, Ends}
use Rattle.reading.specs.declared.meeting.Arrival.TheVariants.{Trailers}
use Rattle.reading.specs.Meeting.{arrived}

-- A place begins with an empty body, and a sending window of setting 4.
abbrev pub place_for : ℕ → Head → Place
place_for stream head = record {
  stream = stream;
  increments = 0;
  priority = head.priority;
  stage = Receiving (record { method = head.method; path = head.path; body = []; counted = 0 });
}

-- The lowest free place is taken, and the stream is the last accepted; without one the stream is refused, and is not.
abbrev pub accepted_at : Streams → ℕ → Bool → Head → Option ℕ → Result Next Fault × Streams
accepted_at c stream end head None = (Err (stream_fault RefusedStream stream), c)
accepted_at c stream end head (Some k) = (Ok (cond end (Ends k) Done), with_accepted (with_slot c k (Some (place_for stream head))) stream)

abbrev pub accepted : Streams → ℕ → Bool → Head → Result Next Fault × Streams
accepted c stream end head = accepted_at c stream end head (lowest_free c.places)

-- A malformed request is a fault of its stream, whether or not a place is free.
abbrev pub judged : Streams → OpenBlock → Result Head Malformed → Result Next Fault × Streams
judged c b (Err why) = (Err (stream_fault ProtocolError b.stream), c)
judged c b (Ok head) = accepted c b.stream b.end_stream head

-- A new stream raises the highest stream seen; once the connection is shut it is then dropped.
abbrev pub opened : Streams → OpenBlock → Result Head Malformed → Result Next Fault × Streams
opened c b first = cond (is_shut c.phase) (Ok Done, with_seen c b.stream) (judged (with_seen c b.stream) b first)

-- The stream is judged when its block closes: trailers if it has a place; gone, and dropped, if it is not above the
-- highest seen; else new.
abbrev pub heard_at : Streams → OpenBlock → Heard → Option ℕ → Result Next Fault × Streams
heard_at c b h (Some k) = arrived c b.stream (Trailers b.end_stream h.colons) []
heard_at c b h None = cond (nat_le b.stream c.seen) (Ok Done, c) (opened c b h.first)

abbrev pub heard_by : Streams → OpenBlock → Heard → Result Next Fault × Streams
heard_by c b h = heard_at c b h (place_of c.places b.stream)

-- A block that cannot be decoded is a fault of the connection, at the first octet of the representation at fault.
abbrev pub decoded : Streams → OpenBlock → Result Heard ℕ × Dynamic → Result Next Fault × Streams × Dynamic
decoded c b (Err place, t) = (Err (connection_fault CompressionError place), c, t)
decoded c b (Ok h, t) = ((heard_by c b h).0, (heard_by c b h).1, t)

-- A closed block is always decoded, so that the table keeps step with the peer's.
abbrev pub closed : Streams → Dynamic → OpenBlock → Result Next Fault × Streams × Dynamic
closed c t b = decoded c b (block_read t c.block)

-- A fragment behind those that came before.
abbrev pub longer : Streams → List ℕ → Streams
longer c fragment = with_block c (c.block ++ fragment)

-- One more fragment: more than 4,096 octets in all are a fault, closed or not; the last one closes the block.
abbrev pub fragment_read : Streams → Dynamic → OpenBlock → List ℕ → Bool → Result Next Fault × Streams × Dynamic
fragment_read c t b fragment last =
    cond (nat_lt 4096 (length c.block + length fragment)) (Err (connection_fault EnhanceYourCalm b.stream), c, t)
    (cond last (closed (with_open_block (longer c fragment) None) t b)
    (Ok Done, with_open_block (longer c fragment) (Some b), t))
