-- What a reader answers: nothing, or the value at the front of the octets and how many octets it took.
use Rattle.std.specs.Prelude.{ℕ, Some, None, Option}

abbrev pub Reading : Type 0 → Type 0
Reading X = Option (X × ℕ)

-- The value that was read.
abbrev pub value_of : {X : Type 0} → Reading X → Option X
value_of None = None
value_of (Some p) = Some p.0

-- How many octets it took: none, if nothing was read.
abbrev pub used_of : {X : Type 0} → Reading X → ℕ
used_of None = 0
used_of (Some p) = p.1

-- One thing after another: the second is looked for only if there is the first.
abbrev pub bind : {X Y : Type 0} → Option X → (X → Option Y) → Option Y
bind None f = None
bind (Some x) f = f x
