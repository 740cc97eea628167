-- What single words name, by their spelling.
use Rattle.std.specs.Prelude.{ℕ, List, codes}
use Rattle.script.specs.declared.name.Reply.{Reply}
use Rattle.script.specs.declared.name.Reply.TheVariants.{Yes, No}
use Rattle.script.specs.declared.name.Scheduler.{Scheduler}
use Rattle.script.specs.declared.name.Scheduler.TheVariants.{Drr, Urgency}
use Rattle.script.specs.declared.name.Shown.{Shown}
use Rattle.script.specs.declared.name.Shown.TheVariants.{Octets}

-- `drr` and `urgency` name the two schedulers
abbrev pub scheduler_spelling : Scheduler → List ℕ
scheduler_spelling Drr = codes "drr"
scheduler_spelling Urgency = codes "urgency"

-- `yes` and `no` are the two replies
abbrev pub reply_spelling : Reply → List ℕ
reply_spelling Yes = codes "yes"
reply_spelling No = codes "no"

-- `octets` is the one thing to show
abbrev pub shown_spelling : Shown → List ℕ
shown_spelling Octets = codes "octets"
