-- The octets of the frames that the engine sends.
use Rattle.std.specs.Prelude.{ℕ, ◌+◌, cond, List, [], ◌∷◌, ◌++◌, length, drop, Ok, Err, Result, nat_lt}
use Rattle.frame_header.specs.declared.header.Header.{Header}
use Rattle.frame_header.specs.declared.header.Kind.{Kind}
use Rattle.frame_header.specs.declared.header.Kind.TheVariants.{Data, Headers, RstStream, Settings, Ping, GoAway, WindowUpdate}
use Rattle.wire.specs.declared.outgoing.Unwritten.{Unwritten}
use Rattle.wire.specs.declared.outgoing.Unwritten.TheVariants.{TooLong, NoRoom}
use Rattle.frames.specs.declared.settings.Setting.{Setting}
use Rattle.frames.specs.declared.settings.SettingName.TheVariants.{MaxConcurrentStreams, NoRfc7540Priorities}
use Rattle.frames.specs.Codes.{code_number}
use Rattle.frames.specs.Cut.{longest}
use Rattle.frame_header.specs.Header.{header_octets}
use Rattle.frame_header.specs.Octets.{octets16, octets31, octets32}
use Rattle.frames.specs.Settings.{name_number}
use Rattle.wire.specs.View.{Sent, sends_settings, sends_settings_ack, sends_ping_ack, sends_rst_stream, sends_window_update, sends_goaway, sends_headers, sends_data}

-- our settings: 16 streams at a time, and no old priorities
abbrev pub our_settings : List Setting
our_settings = record { name = MaxConcurrentStreams; value = 16 } ∷ record { name = NoRfc7540Priorities; value = 1 } ∷ []

-- settings as octets, pair after pair
abbrev pub list_octets : List Setting → List ℕ
list_octets [] = []
list_octets (s ∷ rest) = octets16 (name_number s.name) ++ octets32 s.value ++ list_octets rest

abbrev pub our_list : List ℕ
our_list = list_octets our_settings

-- the header that goes before a payload of n octets
abbrev pub header_for : Kind → ℕ → ℕ → ℕ → Header
header_for kind flags stream n = record { length = n; kind = kind; flags = record { bits = flags }; stream = stream }

-- the header of each frame: its type, flags, stream and length; GOAWAY's last number and increments have 31 bits
abbrev pub header_sent : Sent → Header
header_sent sends_settings = header_for Settings 0 0 12
header_sent sends_settings_ack = header_for Settings 1 0 0
header_sent (sends_ping_ack octets) = header_for Ping 1 0 (length octets)
header_sent (sends_rst_stream stream code) = header_for RstStream 0 stream 4
header_sent (sends_window_update stream increment) = header_for WindowUpdate 0 stream 4
header_sent (sends_goaway last code) = header_for GoAway 0 0 8
header_sent (sends_headers stream block end) = header_for Headers (cond end 5 4) stream (length block)
header_sent (sends_data stream n end) = header_for Data (cond end 1 0) stream n

-- the payload that is written with it; that of DATA is filled in later
abbrev pub payload_sent : Sent → List ℕ
payload_sent sends_settings = our_list
payload_sent sends_settings_ack = []
payload_sent (sends_ping_ack octets) = octets
payload_sent (sends_rst_stream stream code) = octets32 (code_number code)
payload_sent (sends_window_update stream increment) = octets31 increment
payload_sent (sends_goaway last code) = octets31 last ++ octets32 (code_number code)
payload_sent (sends_headers stream block end) = block
payload_sent (sends_data stream n end) = []

-- a header and octets at the front of a buffer, if the payload may be so long and the buffer has room; else nothing changes
abbrev pub put : Header → List ℕ → List ℕ → Result ℕ Unwritten × List ℕ
put header xs buffer =
    cond (nat_lt longest header.length) (Err TooLong, buffer)
    (cond (nat_lt (length buffer) (9 + length xs)) (Err NoRoom, buffer)
    (Ok (9 + length xs), header_octets header ++ (xs ++ drop (9 + length xs) buffer)))

abbrev pub written : Sent → List ℕ → Result ℕ Unwritten × List ℕ
written s buffer = put (header_sent s) (payload_sent s) buffer

-- the octets of a frame (of DATA the header)
abbrev pub octets_of : Sent → List ℕ
octets_of s = header_octets (header_sent s) ++ payload_sent s
