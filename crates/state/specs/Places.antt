-- The sixteen places: which serves a stream, which is free, and what its sending window is.
use Rattle.std.specs.Prelude.{ℕ, ◌+◌, Bool, true, false, List, Some, None, Option, ◌==◌, nat_lt, slice_index_or, slice_set, position}
use Rattle.std.specs.List.{list_any}
use Rattle.state.specs.declared.place.Place.{Place}
use Rattle.state.specs.declared.place.Stage.{Stage}
use Rattle.state.specs.declared.place.Stage.TheVariants.{Receiving, Waiting, Claimed, Sending}
use Rattle.state.specs.declared.streams.Streams.{Streams}
use Rattle.state.specs.Setters.{with_places}

-- What a place holds; past the last there is nothing.
abbrev pub slot_at : Streams → ℕ → Option Place
slot_at c k = slice_index_or c.places k None

abbrev pub with_slot : Streams → ℕ → Option Place → Streams
with_slot c k slot = with_places c (slice_set c.places k slot)

abbrev pub has : Option Place → ℕ → Bool
has None stream = false
has (Some p) stream = p.stream == stream

abbrev pub is_free : Option Place → Bool
is_free None = true
is_free (Some p) = false

-- The place of a stream; none if it has left or never had one.
abbrev pub place_of : List (Option Place) → ℕ → Option ℕ
place_of places stream = position (λ slot. has slot stream) places

abbrev pub lowest_free : List (Option Place) → Option ℕ
lowest_free places = position is_free places

-- The octets of its response that a place has sent.
abbrev pub sent_of : Stage → ℕ
sent_of (Receiving r) = 0
sent_of (Waiting n) = 0
sent_of Claimed = 0
sent_of (Sending r) = r.sent

-- The sending window is setting 4, plus increments, less what is sent: is it above 2^31 - 1?
abbrev pub overflows : ℕ → ℕ → ℕ → Bool
overflows initial increments sent = nat_lt (2147483647 + sent) (initial + increments)

abbrev pub slot_overflows : ℕ → Option Place → Bool
slot_overflows initial None = false
slot_overflows initial (Some p) = overflows initial p.increments (sent_of p.stage)

-- With this value of setting 4, is any place's sending window above 2^31 - 1?
abbrev pub any_overflows : ℕ → List (Option Place) → Bool
any_overflows initial places = list_any (slot_overflows initial) places
