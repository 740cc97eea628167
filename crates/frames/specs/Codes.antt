-- The numbers of error codes.
use Rattle.std.specs.Prelude.{ℕ, cond, Ok, Err, Result, ◌==◌}
use Rattle.frames.specs.declared.code.ErrorCode.{ErrorCode}
use Rattle.frames.specs.declared.code.UnknownCode.{UnknownCode}
use Rattle.frames.specs.declared.code.ErrorCode.TheVariants.{NoError, ProtocolError, InternalError, FlowControlError, SettingsTimeout, StreamClosed, FrameSizeError, RefusedStream, Cancel, CompressionError, ConnectError, EnhanceYourCalm, InadequateSecurity, Http11Required}

-- the number of each error code
abbrev pub code_number : ErrorCode → ℕ
code_number NoError = 0
code_number ProtocolError = 1
code_number InternalError = 2
code_number FlowControlError = 3
code_number SettingsTimeout = 4
code_number StreamClosed = 5
code_number FrameSizeError = 6
code_number RefusedStream = 7
code_number Cancel = 8
code_number CompressionError = 9
code_number ConnectError = 10
code_number EnhanceYourCalm = 11
code_number InadequateSecurity = 12
code_number Http11Required = 13

-- the code that a number stands for, or that none has it
abbrev pub code_of : ℕ → Result ErrorCode UnknownCode
code_of n =
    cond (n == 0) (Ok NoError)
    (cond (n == 1) (Ok ProtocolError)
    (cond (n == 2) (Ok InternalError)
    (cond (n == 3) (Ok FlowControlError)
    (cond (n == 4) (Ok SettingsTimeout)
    (cond (n == 5) (Ok StreamClosed)
    (cond (n == 6) (Ok FrameSizeError)
    (cond (n == 7) (Ok RefusedStream)
    (cond (n == 8) (Ok Cancel)
    (cond (n == 9) (Ok CompressionError)
    (cond (n == 10) (Ok ConnectError)
    (cond (n == 11) (Ok EnhanceYourCalm)
    (cond (n == 12) (Ok InadequateSecurity)
    (cond (n == 13) (Ok Http11Required)
    (Err (record { 0 = n })))))))))))))))
