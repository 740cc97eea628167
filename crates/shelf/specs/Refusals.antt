-- The numbers of refusals.
use Rattle.std.specs.Prelude.{ℕ}
use Rattle.shelf.specs.declared.refusal.Refusal.{Refusal}
use Rattle.shelf.specs.declared.refusal.Refusal.TheVariants.{MalformedShelf}

-- Octets that are no shelf are refused with 50.
abbrev pub refusal_number : Refusal → ℕ
refusal_number MalformedShelf = 50
