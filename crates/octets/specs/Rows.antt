-- The memory of a row of octets: as many as are in use, and zeros behind them.
use Rattle.std.specs.Prelude.{◌≡◌, ℕ, ◌-◌, ◌≤◌, List, ◌++◌, length, take, drop, replicate}
use Rattle.std.proofs.Common.{sym, ap, ◌∙◌, arith, take-append-drop, length-take-le}

-- Octets with zeros behind them, n in all.
abbrev pub padded : ℕ → List ℕ → List ℕ
padded n xs = xs ++ replicate (n - length xs) 0

-- Of n octets of memory the first are used, and behind them are zeros.
pub record IsRow (n used : ℕ) (memory : List ℕ) : Type 0 where
  pub within : used ≤ n
  pub whole : length memory ≡ n
  pub zeros : drop used memory ≡ replicate (n - used) 0

module _ (n used : ℕ) (memory : List ℕ) (row : IsRow n used memory) where
  pub length-front : length (take used memory) ≡ used
  length-front = length-take-le used memory (omega arith)

  -- The used octets give the memory back.
  pub padded_front : padded n (take used memory) ≡ memory
  padded_front =
      ap (λ k. take used memory ++ replicate (n - k) 0) length-front
      ∙ ap (λ (zeros : List ℕ). take used memory ++ zeros) (sym row.zeros)
      ∙ take-append-drop used memory
