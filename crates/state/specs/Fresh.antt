-- A connection that was just opened.
use Rattle.std.specs.Prelude.{List, false, [], replicate, None}
use Rattle.state.specs.declared.engine.Core.{Core}
use Rattle.state.specs.declared.streams.Phase.TheVariants.{Open}
use Rattle.state.specs.declared.queue.Reply.{Reply}
use Rattle.state.specs.declared.streams.Streams.{Streams}

-- No stream has a place, no block is open, and all windows are 65,535.
abbrev pub fresh_streams : Streams
fresh_streams = record {
  phase = Open;
  places = replicate 16 None;
  started = false;
  open_block = None;
  block = [];
  seen = 0;
  accepted = 0;
  initial = 65535;
  window = 65535;
  owed = 0;
  shrink = false;
}

abbrev pub no_replies : List Reply
no_replies = []

-- Nothing is recorded or sent, and no GOAWAY is due.
abbrev pub fresh : Core
fresh = record {
  streams = fresh_streams;
  queue = no_replies;
  recorded = 0;
  settings_sent = false;
  goaway = None;
}
