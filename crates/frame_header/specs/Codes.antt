-- The numbers of frame types and flag bits.
use Rattle.std.specs.Prelude.{ℕ, Bool, cond, not, ◌==◌, bit_and, bit_or}
use Rattle.frame_header.specs.declared.flags.Flags.{Flags}
use Rattle.frame_header.specs.declared.header.Kind.{Kind}
use Rattle.frame_header.specs.declared.header.Kind.TheVariants.{Data, Headers, Priority, RstStream, Settings, PushPromise, Ping, GoAway, WindowUpdate, Continuation, Unknown}

-- the octet of each frame type
abbrev pub kind_number : Kind → ℕ
kind_number Data = 0
kind_number Headers = 1
kind_number Priority = 2
kind_number RstStream = 3
kind_number Settings = 4
kind_number PushPromise = 5
kind_number Ping = 6
kind_number GoAway = 7
kind_number WindowUpdate = 8
kind_number Continuation = 9
kind_number (Unknown n) = n

-- the frame type of each octet
abbrev pub kind_of : ℕ → Kind
kind_of n =
    cond (n == 0) Data
    (cond (n == 1) Headers
    (cond (n == 2) Priority
    (cond (n == 3) RstStream
    (cond (n == 4) Settings
    (cond (n == 5) PushPromise
    (cond (n == 6) Ping
    (cond (n == 7) GoAway
    (cond (n == 8) WindowUpdate
    (cond (n == 9) Continuation
    (Unknown n))))))))))

-- whether a flag is set: END_STREAM and ACK are bit 1, END_HEADERS 4, PADDED 8, PRIORITY 32
abbrev pub flag : ℕ → ℕ → Bool
flag bits bit = not (bit_and bits bit == 0)

-- the flags of both
abbrev pub both_flags : Flags → Flags → Flags
both_flags a b = record { bits = bit_or a.bits b.bits }
