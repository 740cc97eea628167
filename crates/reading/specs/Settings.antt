-- SETTINGS of the peer.
use Rattle.std.specs.Prelude.{ℕ, Bool, cond, ◌||◌, List, [], ◌∷◌, Some, None, Ok, Err, Option, Result, nat_lt}
use Rattle.frames.specs.declared.code.ErrorCode.TheVariants.{FlowControlError}
use Rattle.frames.specs.declared.fault.Fault.{Fault}
use Rattle.frames.specs.declared.settings.Setting.{Setting}
use Rattle.frames.specs.declared.settings.SettingName.{SettingName}
use Rattle.frames.specs.declared.settings.SettingName.TheVariants.{HeaderTableSize, EnablePush, MaxConcurrentStreams, InitialWindowSize, MaxFrameSize, MaxHeaderListSize, NoRfc7540Priorities, Unknown}
use Rattle.frames.specs.Fault.{connection_fault}
use Rattle.frames.specs.Settings.{setting_fault, pairs}
use Rattle.state.specs.declared.place.Place.{Place}
use Rattle.state.specs.declared.queue.Reply.TheVariants.{SettingsAck}
use Rattle.state.specs.declared.streams.Streams.{Streams}
use Rattle.state.specs.Setters.{with_initial, with_shrink}
use Rattle.state.specs.Places.{any_overflows}
use Rattle.reading.specs.declared.next.Next.{Next}
use Rattle.reading.specs.declared.next.Next.TheVariants.{Replies}
use Rattle.reading.specs.declared.settings.Settled.{Settled}

abbrev pub settled : ℕ → Bool → Settled
settled initial shrink = record { initial = initial; shrink = shrink }

-- What a lawful value does. Setting 1 below 4,096 puts a new table size of 0 before the next response block. Setting 4
-- moves the sending window of every place, since each is made of it, and of nothing else: no window may pass 2^31 - 1.
-- All others are ignored.
abbrev pub settled_to : List (Option Place) → Settled → SettingName → ℕ → Result Settled Fault
settled_to places t HeaderTableSize value = Ok (settled t.initial (t.shrink || nat_lt value 4096))
settled_to places t EnablePush value = Ok t
settled_to places t MaxConcurrentStreams value = Ok t
settled_to places t InitialWindowSize value = cond (any_overflows value places) (Err (connection_fault FlowControlError 0)) (Ok (settled value t.shrink))
settled_to places t MaxFrameSize value = Ok t
settled_to places t MaxHeaderListSize value = Ok t
settled_to places t NoRfc7540Priorities value = Ok t
settled_to places t (Unknown n) value = Ok t

abbrev pub settled_unless : List (Option Place) → Settled → Setting → Option Fault → Result Settled Fault
settled_unless places t s (Some fault) = Err fault
settled_unless places t s None = settled_to places t s.name s.value

-- One pair: first its own range, then what it does.
abbrev pub settled_by : List (Option Place) → Settled → Setting → Result Settled Fault
settled_by places t s = settled_unless places t s (setting_fault s)

-- Pairs act one by one, in order, and the first at fault decides.
unfoldable pub all_settled : List (Option Place) → Settled → List Setting → Result Settled Fault
all_settled places t [] = Ok t
all_settled places t (s ∷ more) = elim (settled_by places t s) [ Ok u ↦ all_settled places u more | Err fault ↦ Err fault ]

-- What the pairs leave is kept and acknowledged; a fault leaves all as it was.
abbrev pub settings_kept : Streams → Result Settled Fault → Result Next Fault × Streams
settings_kept c (Ok t) = (Ok (Replies SettingsAck), with_shrink (with_initial c t.initial) t.shrink)
settings_kept c (Err fault) = (Err fault, c)

abbrev pub settings_read : Streams → List ℕ → Result Next Fault × Streams
settings_read c octets = settings_kept c (all_settled c.places (settled c.initial c.shrink) (pairs octets))
