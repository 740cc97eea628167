-- What the code's answers say, with lists in place of what they borrow.
use Rattle.std.specs.Prelude.{ℕ, Bool, List, Some, None, Ok, Err, Option, Result}
use Rattle.frames.specs.declared.cut.RawFrame.{RawFrame}
use Rattle.frames.specs.declared.frame.Frame.{Frame}
use Rattle.frames.specs.declared.frame.Frame.TheVariants.{Data, Headers, Priority, RstStream, Settings, SettingsAck, Ping, PingAck, GoAway, WindowUpdate, Continuation, Unknown}
use Rattle.frame_header.specs.declared.header.Header.{Header}
use Rattle.frames.specs.declared.settings.Setting.{Setting}
use Rattle.frames.specs.declared.settings.SettingsList.{SettingsList}

-- what one frame says
pub data Said : Type 0 where
  says_data : (stream : ℕ) (octets : List ℕ) (counted : ℕ) (end-stream : Bool) → Said
  says_headers : (stream : ℕ) (fragment : List ℕ) (end-headers end-stream : Bool) → Said
  says_priority : (stream : ℕ) → Said
  says_rst_stream : (stream code : ℕ) → Said
  says_settings : (list : List ℕ) → Said
  says_settings_ack : Said
  says_ping : (octets : List ℕ) → Said
  says_ping_ack : (octets : List ℕ) → Said
  says_goaway : (last code : ℕ) (debug : List ℕ) → Said
  says_window_update : (stream increment : ℕ) → Said
  says_continuation : (stream : ℕ) (fragment : List ℕ) (end-headers : Bool) → Said
  says_unknown : (kind stream : ℕ) → Said

abbrev pub said : Frame → Said
said (Data s o n e) = says_data s o.now n e
said (Headers s f h e) = says_headers s f.now h e
said (Priority s) = says_priority s
said (RstStream s c) = says_rst_stream s c
said (Settings l) = says_settings l.octets.now
said SettingsAck = says_settings_ack
said (Ping o) = says_ping o
said (PingAck o) = says_ping_ack o
said (GoAway l c d) = says_goaway l c d.now
said (WindowUpdate s n) = says_window_update s n
said (Continuation s f h) = says_continuation s f.now h
said (Unknown k s) = says_unknown k s

-- an answer with what its value says in the value's place; an error stays
abbrev pub ok_view : {A B E : Type 0} → (A → B) → Result A E → Result B E
ok_view view (Ok x) = Ok (view x)
ok_view view (Err e) = Err e

-- a frame that was cut off: its header and its payload
abbrev pub raw_view : RawFrame → Header × List ℕ
raw_view f = (f.header, f.payload.now)

abbrev pub pair_view : Option (Setting × SettingsList) → Option (Setting × List ℕ)
pair_view None = None
pair_view (Some p) = Some (p.0, p.1.octets.now)
