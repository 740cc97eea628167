-- The memory of a queue of replies: those that wait, and the default behind them.
use Rattle.std.specs.Prelude.{◌≡◌, ℕ, ◌-◌, ◌≤◌, List, ◌++◌, length, take, drop, replicate}
use Rattle.std.proofs.Common.{sym, ap, ◌∙◌, arith, take-append-drop, length-take-le}
use Rattle.state.specs.declared.queue.Reply.{Reply}
use Rattle.state.specs.declared.queue.Reply.TheVariants.{SettingsAck}

-- Replies with the default behind them, 32 in all.
abbrev pub spread : List Reply → List Reply
spread waiting = waiting ++ replicate (32 - length waiting) SettingsAck

-- Of 32 places the first are used, and behind them is the default.
pub record IsQueue (count : ℕ) (replies : List Reply) : Type 0 where
  pub within : count ≤ 32
  pub whole : length replies ≡ 32
  pub default : drop count replies ≡ replicate (32 - count) SettingsAck

module _ (count : ℕ) (replies : List Reply) (is : IsQueue count replies) where
  pub length-front : length (take count replies) ≡ count
  length-front = length-take-le count replies (omega arith)

  -- The used places give the memory back.
  pub spread_front : spread (take count replies) ≡ replies
  spread_front =
      ap (λ k. take count replies ++ replicate (32 - k) SettingsAck) length-front
      ∙ ap (λ (rest : List Reply). take count replies ++ rest) (sym is.default)
      ∙ take-append-drop count replies
