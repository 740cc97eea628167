-- Faults: of the connection, which end it, and of one stream.
use Rattle.std.specs.Prelude.{ℕ}
use Rattle.frames.specs.declared.code.ErrorCode.{ErrorCode}
use Rattle.frames.specs.declared.fault.Fault.{Fault}
use Rattle.frames.specs.declared.fault.Scope.TheVariants.{Connection, Stream}

-- a fault of the connection, told at a place
abbrev pub connection_fault : ErrorCode → ℕ → Fault
connection_fault code place = record { scope = Connection; code = code; place = place }

-- a fault of one stream
abbrev pub stream_fault : ErrorCode → ℕ → Fault
stream_fault code stream = record { scope = Stream; code = code; place = stream }
