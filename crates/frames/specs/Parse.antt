-- What a header and its payload say, or the code of the first rule that they break.
use Rattle.std.specs.Prelude.{ℕ, ◌-◌, ◌%◌, Bool, true, false, cond, not, ◌&&◌, ◌||◌, List, [], ◌∷◌, length, take, drop, Ok, Err, Result, ◌==◌, nat_lt, slice_index}
use Rattle.frames.specs.declared.code.ErrorCode.{ErrorCode}
use Rattle.frames.specs.declared.code.ErrorCode.TheVariants.{ProtocolError, FrameSizeError}
use Rattle.frames.specs.declared.fault.Fault.{Fault}
use Rattle.frame_header.specs.declared.header.Header.{Header}
use Rattle.frame_header.specs.declared.header.Kind.{Kind}
use Rattle.frame_header.specs.declared.header.Kind.TheVariants.{Data, Headers, Priority, RstStream, Settings, PushPromise, Ping, GoAway, WindowUpdate, Continuation, Unknown}
use Rattle.frame_header.specs.Codes.{flag}
use Rattle.frame_header.specs.Octets.{number31, number32}
use Rattle.frames.specs.Fault.{connection_fault}
use Rattle.frames.specs.View.{Said, says_data, says_headers, says_priority, says_rst_stream, says_settings, says_settings_ack, says_ping, says_ping_ack, says_goaway, says_window_update, says_continuation, says_unknown}

-- a rule that is broken decides; else what comes after it does
abbrev pub breaks : {A : Type 0} → Bool → ErrorCode → Result A ErrorCode → Result A ErrorCode
breaks broken code after = cond broken (Err code) after

-- what is made of an answer; a fault stays
abbrev pub then : {A B : Type 0} → Result A ErrorCode → (A → Result B ErrorCode) → Result B ErrorCode
then (Ok x) after = after x
then (Err e) after = Err e

-- flags of a header
abbrev pub ends_stream : Header → Bool
ends_stream h = flag h.flags.bits 1

abbrev pub acknowledges : Header → Bool
acknowledges h = flag h.flags.bits 1

abbrev pub ends_headers : Header → Bool
ends_headers h = flag h.flags.bits 4

abbrev pub is_padded : Header → Bool
is_padded h = flag h.flags.bits 8

abbrev pub has_priority : Header → Bool
has_priority h = flag h.flags.bits 32

-- a stream that no HEADERS has opened: even (0 is too), or above the highest seen
abbrev pub idle : ℕ → ℕ → Bool
idle stream seen = stream % 2 == 0 || nat_lt seen stream

-- a padded payload: its first octet counts the padding at its end; the count may not be missing nor exceed what is left
abbrev pub pad_cut : List ℕ → Result (List ℕ) ErrorCode
pad_cut [] = Err FrameSizeError
pad_cut (count ∷ rest) = breaks (nat_lt (length rest) count) ProtocolError (Ok (take (length rest - count) rest))

abbrev pub unpadded : Bool → List ℕ → Result (List ℕ) ErrorCode
unpadded true xs = pad_cut xs
unpadded false xs = Ok xs

-- five octets of the old priority scheme are skipped
abbrev pub without_priority : Bool → List ℕ → Result (List ℕ) ErrorCode
without_priority true xs = breaks (nat_lt (length xs) 5) FrameSizeError (Ok (drop 5 xs))
without_priority false xs = Ok xs

-- DATA: not on stream 0 or an idle one; padding
abbrev pub read_data : Header → List ℕ → ℕ → Result Said ErrorCode
read_data h xs seen =
    breaks (idle h.stream seen) ProtocolError
    (then (unpadded (is_padded h) xs) (λ octets.
    Ok (says_data h.stream octets (length xs) (ends_stream h))))

-- HEADERS: not on an even stream; padding; then the priority octets
abbrev pub read_headers : Header → List ℕ → Result Said ErrorCode
read_headers h xs =
    breaks (h.stream % 2 == 0) ProtocolError
    (then (unpadded (is_padded h) xs) (λ rest.
    then (without_priority (has_priority h) rest) (λ fragment.
    Ok (says_headers h.stream fragment (ends_headers h) (ends_stream h)))))

-- RST_STREAM: not on stream 0 or an idle one; four octets
abbrev pub read_rst_stream : Header → List ℕ → ℕ → Result Said ErrorCode
read_rst_stream h xs seen =
    breaks (idle h.stream seen) ProtocolError
    (breaks (not (length xs == 4)) FrameSizeError
    (Ok (says_rst_stream h.stream (number32 (slice_index xs 0) (slice_index xs 1) (slice_index xs 2) (slice_index xs 3)))))

-- SETTINGS: on stream 0; an ACK is empty; else a list of pairs of six octets
abbrev pub read_settings : Header → List ℕ → Result Said ErrorCode
read_settings h xs =
    breaks (not (h.stream == 0)) ProtocolError
    (cond (acknowledges h)
    (breaks (not (length xs == 0)) FrameSizeError (Ok says_settings_ack))
    (breaks (not (length xs % 6 == 0)) FrameSizeError (Ok (says_settings xs))))

-- PING: on stream 0; eight octets
abbrev pub read_ping : Header → List ℕ → Result Said ErrorCode
read_ping h xs =
    breaks (not (h.stream == 0)) ProtocolError
    (breaks (not (length xs == 8)) FrameSizeError
    (Ok (cond (acknowledges h) (says_ping_ack xs) (says_ping xs))))

-- GOAWAY: on stream 0; at least eight octets
abbrev pub read_goaway : Header → List ℕ → Result Said ErrorCode
read_goaway h xs =
    breaks (not (h.stream == 0)) ProtocolError
    (breaks (nat_lt (length xs) 8) FrameSizeError
    (Ok (says_goaway
    (number31 (slice_index xs 0) (slice_index xs 1) (slice_index xs 2) (slice_index xs 3))
    (number32 (slice_index xs 4) (slice_index xs 5) (slice_index xs 6) (slice_index xs 7))
    (drop 8 xs))))

-- WINDOW_UPDATE: four octets; not on an idle stream but 0; on stream 0 the increment is not 0
-- (on a stream that rule comes after the question whether the stream still has a place)
abbrev pub increment_of : List ℕ → ℕ
increment_of xs = number31 (slice_index xs 0) (slice_index xs 1) (slice_index xs 2) (slice_index xs 3)

abbrev pub read_window_update : Header → List ℕ → ℕ → Result Said ErrorCode
read_window_update h xs seen =
    breaks (not (length xs == 4)) FrameSizeError
    (breaks (not (h.stream == 0) && idle h.stream seen) ProtocolError
    (breaks (h.stream == 0 && increment_of xs == 0) ProtocolError
    (Ok (says_window_update h.stream (increment_of xs)))))

-- each type by its own rules; PUSH_PROMISE never comes from a client; PRIORITY and unknown types have none
abbrev pub read_by_kind : Kind → Header → List ℕ → ℕ → Result Said ErrorCode
read_by_kind Data h xs seen = read_data h xs seen
read_by_kind Headers h xs seen = read_headers h xs
read_by_kind Priority h xs seen = Ok (says_priority h.stream)
read_by_kind RstStream h xs seen = read_rst_stream h xs seen
read_by_kind Settings h xs seen = read_settings h xs
read_by_kind PushPromise h xs seen = Err ProtocolError
read_by_kind Ping h xs seen = read_ping h xs
read_by_kind GoAway h xs seen = read_goaway h xs
read_by_kind WindowUpdate h xs seen = read_window_update h xs seen
read_by_kind Continuation h xs seen = Ok (says_continuation h.stream xs (ends_headers h))
read_by_kind (Unknown k) h xs seen = Ok (says_unknown k h.stream)

-- a broken rule of a frame by itself is a fault of the connection, at the frame's stream
abbrev pub placed : ℕ → Result Said ErrorCode → Result Said Fault
placed stream (Ok f) = Ok f
placed stream (Err code) = Err (connection_fault code stream)

-- what a frame says, or its fault; `seen` is the highest stream of any HEADERS
abbrev pub parsed : Header → List ℕ → ℕ → Result Said Fault
parsed h xs seen = placed h.stream (read_by_kind h.kind h xs seen)
