-- One frame from the front of what came, and what it says; a frame that was written is read as what was meant.
use Rattle.std.specs.Prelude.{◌≡◌, ℕ, ◌+◌, ◌<◌, ◌≤◌, true, false, ◌⊎◌, List, [], ◌++◌, length, take, Ok, Err, Result}
use Rattle.frames.specs.declared.cut.Unread.{Unread}
use Rattle.frames.specs.declared.cut.Unread.TheVariants.{Faulty}
use Rattle.frames.specs.declared.fault.Fault.{Fault}
use Rattle.frame_header.specs.declared.header.Header.{Header}
use Rattle.frames.specs.Codes.{code_number}
use Rattle.frames.specs.Cut.{cut_of, longest}
use Rattle.frames.specs.Parse.{idle, parsed}
use Rattle.frames.specs.View.{Said, says_data, says_headers, says_rst_stream, says_settings, says_settings_ack, says_ping_ack, says_goaway, says_window_update}
use Rattle.wire.specs.View.{Sent, sends_settings, sends_settings_ack, sends_ping_ack, sends_rst_stream, sends_window_update, sends_goaway, sends_headers, sends_data}
use Rattle.wire.specs.Write.{header_sent, octets_of, our_list}

-- a frame's own rules, and how many octets it has
abbrev pub read_parsed : Result Said Fault → ℕ → Result (Said × ℕ) Unread
read_parsed (Ok f) n = Ok (f, 9 + n)
read_parsed (Err f) n = Err (Faulty f)

abbrev pub read_cut : Result (Header × List ℕ) Unread → ℕ → Result (Said × ℕ) Unread
read_cut (Ok p) seen = read_parsed (parsed p.0 p.1 seen) (length p.1)
read_cut (Err e) seen = Err e

abbrev pub read_of : List ℕ → ℕ → Result (Said × ℕ) Unread
read_of xs seen = read_cut (cut_of xs) seen

-- what each frame means to its reader; the payload of DATA is what stands behind its header
abbrev pub meant : Sent → List ℕ → Said
meant sends_settings behind = says_settings our_list
meant sends_settings_ack behind = says_settings_ack
meant (sends_ping_ack octets) behind = says_ping_ack octets
meant (sends_rst_stream stream code) behind = says_rst_stream stream (code_number code)
meant (sends_window_update stream increment) behind = says_window_update stream increment
meant (sends_goaway last code) behind = says_goaway last (code_number code) []
meant (sends_headers stream block end) behind = says_headers stream block true end
meant (sends_data stream n end) behind = says_data stream (take n behind) n end

-- a stream of 31 bits that the reader has seen
abbrev pub Known : ℕ → ℕ → Type 0
Known stream seen = (stream < 2147483648) × (idle stream seen ≡ false)

-- what the writer owes: numbers in their ranges, streams that are there, and for DATA its payload behind the header
abbrev pub Sendable : Sent → ℕ → List ℕ → Type 0
Sendable sends_settings seen behind = Unit {0}
Sendable sends_settings_ack seen behind = Unit {0}
Sendable (sends_ping_ack octets) seen behind = length octets ≡ 8
Sendable (sends_rst_stream stream code) seen behind = Known stream seen
Sendable (sends_window_update stream increment) seen behind = (0 < increment) × (increment < 2147483648) × (stream < 2147483648) × ((stream ≡ 0) ⊎ (idle stream seen ≡ false))
Sendable (sends_goaway last code) seen behind = last < 2147483648
Sendable (sends_headers stream block end) seen behind = Known stream seen × (length block ≤ longest)
Sendable (sends_data stream n end) seen behind = Known stream seen × (n ≤ longest) × (n ≤ length behind)

-- the answer to octets that begin with a written frame is that frame and its length
abbrev pub ReadsBack : List ℕ → ℕ → Result (Said × ℕ) Unread → Type 0
ReadsBack xs seen r = (s : Sent) (behind : List ℕ) → xs ≡ octets_of s ++ behind → Sendable s seen behind → r ≡ Ok (meant s behind, 9 + (header_sent s).length)
