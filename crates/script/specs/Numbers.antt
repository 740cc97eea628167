-- Numbers as a script writes them.
use Rattle.std.specs.Prelude.{◌≡◌, ℕ, List, Ok, Err, Result}
use Rattle.std.specs.Borrow.{Bor}
use Rattle.script.specs.Text.{NumberWithin}
use Rattle.script.specs.declared.problem.Problem.{Problem}
use Rattle.script.specs.declared.problem.Problem.TheVariants.{BadNumber}

-- the value is that of the number which the text writes, just where it lies in the range; else the text and the range are told
abbrev pub NamesNumber : {W : Type 0} → (W → ℕ) → ℕ → ℕ → Bor (List ℕ) → Result W Problem → Type 0
NamesNumber value least most text (Ok n) = NumberWithin {E = Problem} text.now least most (Ok (value n))
NamesNumber value least most text (Err p) = NumberWithin {E = Problem} text.now least most (Err p) × (p ≡ BadNumber text least most)
