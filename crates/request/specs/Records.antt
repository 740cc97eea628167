-- The book's records.
use Rattle.std.specs.Prelude.{ℕ, min, cond, List, length, replicate, nat_le, nat_lt, slice_set, Ok, Err, Result}
use Rattle.request.specs.declared.record.Record.{Record}
use Rattle.request.specs.declared.record.Unrecorded.{Unrecorded}
use Rattle.request.specs.declared.record.Unrecorded.TheVariants.{NoSpace, TooLong}
use Rattle.request.specs.Texts.{padded}

-- The stream, the length of the body, and the body with zeros behind it to 256 octets.
abbrev pub record_of : ℕ → List ℕ → Record
record_of s b = record { stream = s; length = length b; body = padded 256 b }

abbrev pub blank_record : Record
blank_record = record { stream = 0; length = 0; body = replicate 256 0 }

-- Records past 65,535 stay unused.
abbrev pub space : List Record → ℕ
space book = min (length book) 65535

-- The record is written where the book has space and the body is no longer than a record's; else the book stays. Space is
-- asked first.
abbrev pub record_written : List Record → ℕ → ℕ → List ℕ → Result (Unit {0}) Unrecorded × List Record
record_written book n s b =
    cond (nat_lt n (space book)) (cond (nat_le (length b) 256) (Ok tt, slice_set book n (record_of s b)) (Err TooLong, book)) (Err NoSpace, book)
