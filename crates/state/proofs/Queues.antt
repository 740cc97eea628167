-- What a push leaves behind the replies that wait: the default.
use Rattle.std.proofs.Common.{◌≡◌, ℕ, ◌+◌, ◌-◌, ◌<◌, List, drop, replicate, slice_set, sym, ap, ◌∙◌, arith}
use Rattle.std.proofs.lemmas.List.{drop-set-lt, drop-drop, drop-replicate}
use Rattle.state.specs.declared.queue.Reply.{Reply}
use Rattle.state.specs.declared.queue.Reply.TheVariants.{SettingsAck}
use Rattle.state.specs.Queues.{IsQueue}

pub default_behind : (count : ℕ) (replies : List Reply) → IsQueue count replies → (reply : Reply) → count < 32 → drop (count + 1) (slice_set replies count reply) ≡ replicate (32 - (count + 1)) SettingsAck
default_behind count replies is reply room =
    drop-set-lt (count + 1) replies count reply (omega arith)
    ∙ sym (drop-drop 1 count replies)
    ∙ ap (drop 1) is.default
    ∙ drop-replicate 1 (32 - count) SettingsAck
    ∙ ap (λ m. replicate m SettingsAck) (omega arith)
