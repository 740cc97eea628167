-- The list of a SETTINGS frame: a name of 16 bits and a value of 32, pair after pair.
use Rattle.std.specs.Prelude.{ℕ, Bool, cond, ◌||◌, List, [], ◌∷◌, Some, None, Option, ◌==◌, nat_lt, slice_index}
use Rattle.frames.specs.declared.code.ErrorCode.{ErrorCode}
use Rattle.frames.specs.declared.code.ErrorCode.TheVariants.{ProtocolError, FlowControlError}
use Rattle.frames.specs.declared.fault.Fault.{Fault}
use Rattle.frames.specs.declared.settings.Setting.{Setting}
use Rattle.frames.specs.declared.settings.SettingName.{SettingName}
use Rattle.frames.specs.declared.settings.SettingName.TheVariants.{HeaderTableSize, EnablePush, MaxConcurrentStreams, InitialWindowSize, MaxFrameSize, MaxHeaderListSize, NoRfc7540Priorities, Unknown}
use Rattle.frame_header.specs.Octets.{number16, number32, split_front}
use Rattle.frames.specs.Fault.{connection_fault}

-- the number of each setting
abbrev pub name_number : SettingName → ℕ
name_number HeaderTableSize = 1
name_number EnablePush = 2
name_number MaxConcurrentStreams = 3
name_number InitialWindowSize = 4
name_number MaxFrameSize = 5
name_number MaxHeaderListSize = 6
name_number NoRfc7540Priorities = 9
name_number (Unknown n) = n

-- the setting of each number
abbrev pub name_of : ℕ → SettingName
name_of n =
    cond (n == 1) HeaderTableSize
    (cond (n == 2) EnablePush
    (cond (n == 3) MaxConcurrentStreams
    (cond (n == 4) InitialWindowSize
    (cond (n == 5) MaxFrameSize
    (cond (n == 6) MaxHeaderListSize
    (cond (n == 9) NoRfc7540Priorities
    (Unknown n)))))))

-- a connection fault on stream 0, where all settings come
abbrev pub fault_when : Bool → ErrorCode → Option Fault
fault_when broken code = cond broken (Some (connection_fault code 0)) None

-- settings 2 and 9 are 0 or 1; setting 4 is below 2^31; setting 5 is from 16,384 to 16,777,215; others may have any value
abbrev pub out_of_range : SettingName → ℕ → Option Fault
out_of_range HeaderTableSize v = None
out_of_range EnablePush v = fault_when (nat_lt 1 v) ProtocolError
out_of_range MaxConcurrentStreams v = None
out_of_range InitialWindowSize v = fault_when (nat_lt 2147483647 v) FlowControlError
out_of_range MaxFrameSize v = fault_when (nat_lt v 16384 || nat_lt 16777215 v) ProtocolError
out_of_range MaxHeaderListSize v = None
out_of_range NoRfc7540Priorities v = fault_when (nat_lt 1 v) ProtocolError
out_of_range (Unknown n) v = None

abbrev pub setting_fault : Setting → Option Fault
setting_fault s = out_of_range s.name s.value

-- the first pair of a list
abbrev pub setting_of : List ℕ → Setting
setting_of xs = record {
  name = name_of (number16 (slice_index xs 0) (slice_index xs 1));
  value = number32 (slice_index xs 2) (slice_index xs 3) (slice_index xs 4) (slice_index xs 5);
}

-- the first pair and what stands behind it, if six octets are left
abbrev pub first_pair : List ℕ → Option (Setting × List ℕ)
first_pair xs = split_front 6 setting_of xs

-- all pairs of a list, in order; octets that make no whole pair are none
unfoldable pub pairs : List ℕ → List Setting
pairs [] = []
pairs (a ∷ []) = []
pairs (a ∷ b ∷ []) = []
pairs (a ∷ b ∷ c ∷ []) = []
pairs (a ∷ b ∷ c ∷ d ∷ []) = []
pairs (a ∷ b ∷ c ∷ d ∷ e ∷ []) = []
pairs (a ∷ b ∷ c ∷ d ∷ e ∷ f ∷ rest) = record { name = name_of (number16 a b); value = number32 c d e f } ∷ pairs rest

-- the pairs that an answer of `first_pair` stands for
abbrev pub pairs_in : Option (Setting × List ℕ) → List Setting
pairs_in None = []
pairs_in (Some p) = p.0 ∷ pairs p.1
