-- A frame that is written and read again is the frame that was meant.
use Rattle.std.proofs.Common.{◌≡◌, ℕ, ◌+◌, ◌/◌, ◌%◌, ◌<◌, ◌≤◌, Bool, true, false, cond, ◌⊎◌, List, [], ◌++◌, length, take, Ok, Result, refl, ap, ◌∙◌, arith, length-append, length-take, rules}
use Rattle.std.proofs.lemmas.List.{take_at}
use Rattle.std.proofs.lemmas.Nat.{from_be_bytes-to_be_bytes_4}
use Rattle.frame_header.specs.Octets.{number24, number31, octets31, octets32}
use Rattle.frames.specs.declared.cut.Unread.{Unread}
use Rattle.frames.specs.declared.fault.Fault.{Fault}
use Rattle.frames.specs.declared.code.ErrorCode.{ErrorCode}
use Rattle.frame_header.specs.declared.header.Kind.{Kind}
use Rattle.frame_header.specs.declared.header.Kind.TheVariants.{Data, Headers, RstStream, Settings, Ping, GoAway, WindowUpdate}
use Rattle.frames.specs.Codes.{code_number}
use Rattle.frame_header.specs.Codes.{kind_of, kind_number}
use Rattle.frames.specs.Cut.{cut_of}
use Rattle.frame_header.specs.Header.{header_octets, header_of}
use Rattle.frames.specs.Parse.{idle, parsed}
use Rattle.wire.specs.Read.{meant, read_of, read_parsed, read_cut, ReadsBack, Sendable}
use Rattle.frames.specs.View.{says_data, says_headers, says_ping_ack, says_rst_stream, says_goaway, says_window_update, Said}
use Rattle.wire.specs.View.{Sent, sends_settings, sends_settings_ack, sends_ping_ack, sends_rst_stream, sends_window_update, sends_goaway, sends_headers, sends_data}
use Rattle.wire.specs.Write.{header_for, header_sent, octets_of, our_list}

pub number24-back : (n : ℕ) → n < 16777216 → number24 (n / 65536 % 256) (n / 256 % 256) (n % 256) ≡ n
number24-back n h = omega arith

pub number31-back : (n : ℕ) → n < 2147483648
    → number31 (n % 2147483648 / 16777216 % 256) (n % 2147483648 / 65536 % 256) (n % 2147483648 / 256 % 256) (n % 2147483648 % 256) ≡ n
number31-back n h =
    let same : n % 2147483648 ≡ n = omega arith in
    rw (same, from_be_bytes-to_be_bytes_4 n (omega arith)) same

-- a header whose numbers are in their ranges is read as it was written
pub header_back : (kind : Kind) (bits stream n : ℕ) (ys : List ℕ) → n < 16777216 → stream < 2147483648 → kind_of (kind_number kind) ≡ kind
    → header_of (header_octets (header_for kind bits stream n) ++ ys) ≡ header_for kind bits stream n
header_back kind bits stream n ys short low known = rw (number24-back n short, number31-back stream low, known)

-- a frame of a lawful length is cut off as it was written
pub cut-back : (kind : Kind) (bits stream n : ℕ) (ys : List ℕ) → n ≤ 16384 → n ≤ length ys → stream < 2147483648 → kind_of (kind_number kind) ≡ kind
    → cut_of (header_octets (header_for kind bits stream n) ++ ys) ≡ Ok (header_for kind bits stream n, take n ys)
cut-back kind bits stream n ys short whole low known =
    rw (header_back kind bits stream n ys (omega arith) low known) (search rules)

-- a frame with its whole payload is cut off as it was written
pub frame_back : (kind : Kind) (bits stream : ℕ) (xs behind : List ℕ) (seen : ℕ) → length xs ≤ 16384 → stream < 2147483648 → kind_of (kind_number kind) ≡ kind
    → read_of ((header_octets (header_for kind bits stream (length xs)) ++ xs) ++ behind) seen ≡ read_parsed (parsed (header_for kind bits stream (length xs)) xs seen) (length xs)
frame_back kind bits stream xs behind seen short low known =
    let room : length xs ≤ length (xs ++ behind) = simp length-append (omega arith) in
    rw (cut-back kind bits stream (length xs) (xs ++ behind) short room low known, take_at xs behind (length xs) refl)

-- four octets of a code
code_small : (code : ErrorCode) → code_number code < 4294967296
code_small code = grind arith

-- what each payload says behind its header
told : {r : Result Said Fault} {f : Said} (n : ℕ) → r ≡ Ok f → read_parsed r n ≡ Ok (f, 9 + n)
told n e = ap (λ r. read_parsed r n) e

goaway_said : (last code seen : ℕ) → last < 2147483648 → code < 4294967296
    → parsed (header_for GoAway 0 0 8) (octets31 last ++ octets32 code) seen ≡ Ok (says_goaway last code [])
goaway_said last code seen h k = rw (number31-back last h, from_be_bytes-to_be_bytes_4 code k)

ping_said : (octets : List ℕ) (seen : ℕ) → length octets ≡ 8 → parsed (header_for Ping 1 0 (length octets)) octets seen ≡ Ok (says_ping_ack octets)
ping_said octets seen e = search rules

rst_stream_said : (stream seen n : ℕ) → n < 4294967296 → idle stream seen ≡ false
    → parsed (header_for RstStream 0 stream 4) (octets32 n) seen ≡ Ok (says_rst_stream stream n)
rst_stream_said stream seen n h known = rw (known, from_be_bytes-to_be_bytes_4 n h)

headers_said : (stream seen : ℕ) (block : List ℕ) (end : Bool) → idle stream seen ≡ false
    → parsed (header_for Headers (cond end 5 4) stream (length block)) block seen ≡ Ok (says_headers stream block true end)
headers_said stream seen block end known = grind arith

data_said : (stream seen n : ℕ) (octets : List ℕ) (end : Bool) → length octets ≡ n → idle stream seen ≡ false
    → parsed (header_for Data (cond end 1 0) stream n) octets seen ≡ Ok (says_data stream octets n end)
data_said stream seen n octets end e known = grind arith

window_update_said : (stream seen n : ℕ) → 0 < n → n < 2147483648 → (stream ≡ 0) ⊎ (idle stream seen ≡ false)
    → parsed (header_for WindowUpdate 0 stream 4) (octets31 n) seen ≡ Ok (says_window_update stream n)
window_update_said stream seen n positive h known = rw (number31-back n h) (grind arith)

-- every frame is read as what was meant
pub written_back : (s : Sent) (seen : ℕ) (behind : List ℕ) → Sendable s seen behind → read_of (octets_of s ++ behind) seen ≡ Ok (meant s behind, 9 + (header_sent s).length)
written_back sends_settings seen behind u = frame_back Settings 0 0 our_list behind seen (omega arith) (omega arith) refl
written_back sends_settings_ack seen behind u = frame_back Settings 1 0 [] behind seen (omega arith) (omega arith) refl
written_back (sends_ping_ack octets) seen behind u =
    frame_back Ping 1 0 octets behind seen (omega arith) (omega arith) refl ∙ told (length octets) (ping_said octets seen u)
written_back (sends_rst_stream stream code) seen behind u =
    frame_back RstStream 0 stream (octets32 (code_number code)) behind seen (omega arith) u.0 refl
    ∙ told 4 (rst_stream_said stream seen (code_number code) (code_small code) u.1)
written_back (sends_window_update stream increment) seen behind u =
    frame_back WindowUpdate 0 stream (octets31 increment) behind seen (omega arith) u.2 refl
    ∙ told 4 (window_update_said stream seen increment u.0 u.1 u.3)
written_back (sends_goaway last code) seen behind u =
    frame_back GoAway 0 0 (octets31 last ++ octets32 (code_number code)) behind seen (omega arith) (omega arith) refl
    ∙ told 8 (goaway_said last (code_number code) seen u (code_small code))
written_back (sends_headers stream block end) seen behind u =
    frame_back Headers (cond end 5 4) stream block behind seen u.1 u.0.0 refl ∙ told (length block) (headers_said stream seen block end u.0.1)
written_back (sends_data stream n end) seen behind u =
    let long : length (take n behind) ≡ n = simp length-take (omega arith) in
    ap (λ p. read_cut p seen) (cut-back Data (cond end 1 0) stream n behind u.1 u.2 u.0.0 refl)
    ∙ told (length (take n behind)) (data_said stream seen n (take n behind) end long u.0.1)
    ∙ ap (λ (m : ℕ). Ok (says_data stream (take n behind) n end, 9 + m)) long

pub reads_back : (xs : List ℕ) (seen : ℕ) (r : Result (Said × ℕ) Unread) → r ≡ read_of xs seen → ReadsBack xs seen r
reads_back xs seen r e s behind is u = e ∙ ap (λ ys. read_of ys seen) is ∙ written_back s seen behind u
