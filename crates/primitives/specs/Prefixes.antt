-- How many bits of its first octet an integer takes.
use Rattle.std.specs.Prelude.{◌≡◌, ℕ, ◌≤◌, ◌↔◌, Result, MatchResult, IsOk}
use Rattle.primitives.specs.declared.integer.NoPrefix.{NoPrefix}
use Rattle.primitives.specs.declared.integer.Prefix.{Prefix}
use Rattle.primitives.specs.declared.integer.Prefix.TheVariants.{Four, Five, Six, Seven, Eight}

abbrev pub bits_of : Prefix → ℕ
bits_of Four = 4
bits_of Five = 5
bits_of Six = 6
bits_of Seven = 7
bits_of Eight = 8

-- The prefix of a number of bits, for each number from 4 to 8; others are named in the error.
abbrev pub IsPrefixOf : ℕ → Result Prefix NoPrefix → Type 0
IsPrefixOf bits r =
    MatchResult r (λ p. bits_of p ≡ bits) (λ e. e.0 ≡ bits) × (IsOk r ↔ ((4 ≤ bits) × (bits ≤ 8)))
