-- One frame from the front of what came.
use Rattle.std.specs.Prelude.{ℕ, cond, List, length, take, Some, None, Ok, Err, Option, Result, nat_lt}
use Rattle.frames.specs.declared.code.ErrorCode.TheVariants.{FrameSizeError}
use Rattle.frames.specs.declared.cut.Refusal.{Refusal}
use Rattle.frames.specs.declared.cut.Refusal.TheVariants.{Incomplete}
use Rattle.frames.specs.declared.cut.Unread.{Unread}
use Rattle.frames.specs.declared.cut.Unread.TheVariants.{Refused, Faulty}
use Rattle.frame_header.specs.declared.header.Header.{Header}
use Rattle.frame_header.specs.Header.{split_header}
use Rattle.frames.specs.Fault.{connection_fault}

-- the number of each refusal
abbrev pub refusal_number : Refusal → ℕ
refusal_number Incomplete = 22

-- the longest payload of a frame
abbrev pub longest : ℕ
longest = 16384

-- behind a header: is the length field at most 16,384, and are that many octets there?
abbrev pub cut_after : Option (Header × List ℕ) → Result (Header × List ℕ) Unread
cut_after None = Err (Refused Incomplete)
cut_after (Some p) =
    cond (nat_lt longest p.0.length) (Err (Faulty (connection_fault FrameSizeError p.0.stream)))
    (cond (nat_lt (length p.1) p.0.length) (Err (Refused Incomplete))
    (Ok (p.0, take p.0.length p.1)))

-- are nine octets there? then the rest is asked; what is cut off is a header and its payload
abbrev pub cut_of : List ℕ → Result (Header × List ℕ) Unread
cut_of xs = cut_after (split_header xs)
