-- What decoding a word answers.
use Rattle.std.specs.Prelude.{◌≡◌, ℕ, List, Some, None, Ok, Err, vec_items, Option, Result, Vec}
use Rattle.std.specs.declared.alloc.Global.{Global}
use Rattle.script.specs.declared.problem.Problem.{Problem}
use Rattle.script.specs.declared.problem.Problem.TheVariants.{UnknownWord, MissingWord, ExtraWord, BadHex, BadNumber, LateSetting, NoMemory}

-- bad digits are told only of a word that stands for no octets; want of memory may always be told
abbrev pub Refuses : Option (List ℕ) → Problem → Type 0
Refuses meant (UnknownWord w) = ⊥
Refuses meant MissingWord = ⊥
Refuses meant (ExtraWord w) = ⊥
Refuses meant (BadHex w) = meant ≡ None
Refuses meant (BadNumber w least most) = ⊥
Refuses meant LateSetting = ⊥
Refuses meant NoMemory = Unit {0}

-- the octets are those that were meant
abbrev pub Decodes : Option (List ℕ) → Result (Vec ℕ Global) Problem → Type 0
Decodes meant (Ok v) = meant ≡ Some (vec_items v)
Decodes meant (Err p) = Refuses meant p
