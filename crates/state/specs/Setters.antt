-- The same state with one part changed: one definition for each part that some rule changes.
use Rattle.std.specs.Prelude.{ℕ, Bool, List, Option}
use Rattle.frames.specs.declared.code.ErrorCode.{ErrorCode}
use Rattle.state.specs.declared.place.Place.{Place}
use Rattle.state.specs.declared.place.Stage.{Stage}
use Rattle.state.specs.declared.queue.Reply.{Reply}
use Rattle.state.specs.declared.streams.OpenBlock.{OpenBlock}
use Rattle.state.specs.declared.streams.Streams.{Streams}
use Rattle.state.specs.declared.engine.Core.{Core}
use Rattle.state.specs.declared.streams.Phase.{Phase}

abbrev pub with_phase : Streams → Phase → Streams
with_phase c x = record c { phase = x }

abbrev pub with_places : Streams → List (Option Place) → Streams
with_places c x = record c { places = x }

abbrev pub with_started : Streams → Bool → Streams
with_started c x = record c { started = x }

abbrev pub with_open_block : Streams → Option OpenBlock → Streams
with_open_block c x = record c { open_block = x }

abbrev pub with_block : Streams → List ℕ → Streams
with_block c x = record c { block = x }

abbrev pub with_seen : Streams → ℕ → Streams
with_seen c x = record c { seen = x }

abbrev pub with_accepted : Streams → ℕ → Streams
with_accepted c x = record c { accepted = x }

abbrev pub with_initial : Streams → ℕ → Streams
with_initial c x = record c { initial = x }

abbrev pub with_window : Streams → ℕ → Streams
with_window c x = record c { window = x }

abbrev pub with_owed : Streams → ℕ → Streams
with_owed c x = record c { owed = x }

abbrev pub with_shrink : Streams → Bool → Streams
with_shrink c x = record c { shrink = x }

abbrev pub with_streams : Core → Streams → Core
with_streams c x = record c { streams = x }

abbrev pub with_queue : Core → List Reply → Core
with_queue c x = record c { queue = x }

abbrev pub with_recorded : Core → ℕ → Core
with_recorded c x = record c { recorded = x }

abbrev pub with_goaway : Core → Option ErrorCode → Core
with_goaway c x = record c { goaway = x }

abbrev pub with_increments : Place → ℕ → Place
with_increments c x = record c { increments = x }

abbrev pub with_stage : Place → Stage → Place
with_stage c x = record c { stage = x }
