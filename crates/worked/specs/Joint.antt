-- The worked values of all rooms, as one fact about their definitions.
use Rattle.primitives.specs.Integers.{WorkedIntegers}
use Rattle.policies.specs.Worked.{WorkedValues}
use Rattle.slices.specs.Worked.{Worked}

-- integers with a prefix; charges and both schedulers' picks; slices of the line test
abbrev pub WorkedTogether : Type 0
WorkedTogether = WorkedIntegers × WorkedValues × Worked
