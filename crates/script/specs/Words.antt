-- The words that a line may begin with, by their spelling.
use Rattle.std.specs.Prelude.{◌≡◌, ℕ, List, Ok, Err, codes, Result, ◌≢◌}
use Rattle.std.specs.Borrow.{Bor}
use Rattle.script.specs.declared.problem.Problem.{Problem}
use Rattle.script.specs.declared.problem.Problem.TheVariants.{UnknownWord}
use Rattle.script.specs.declared.word.CallWord.TheVariants.{Greet, Take, Send, Claim, Answer, Shut, Offers, Pick, Fetch, Block}
use Rattle.script.specs.declared.word.SettingWord.TheVariants.{Scheduler, Site, Book, Show}
use Rattle.script.specs.declared.word.Word.{Word}
use Rattle.script.specs.declared.word.Word.TheVariants as word

-- the text is spelled as what it names; an unknown word is spelled as nothing
abbrev pub Spells : {T : Type 0} → (T → List ℕ) → Bor (List ℕ) → Result T Problem → Type 0
Spells spelling text (Ok x) = text.now ≡ spelling x
Spells {T} spelling text (Err p) = (p ≡ UnknownWord text) × ((x : T) → text.now ≢ spelling x)

abbrev pub spelling : Word → List ℕ
spelling (word.Setting Scheduler) = codes "scheduler"
spelling (word.Setting Site) = codes "site"
spelling (word.Setting Book) = codes "book"
spelling (word.Setting Show) = codes "show"
spelling (word.Call Greet) = codes "greet"
spelling (word.Call Take) = codes "take"
spelling (word.Call Send) = codes "send"
spelling (word.Call Claim) = codes "claim"
spelling (word.Call Answer) = codes "answer"
spelling (word.Call Shut) = codes "shut"
spelling (word.Call Offers) = codes "offers"
spelling (word.Call Pick) = codes "pick"
spelling (word.Call Fetch) = codes "fetch"
spelling (word.Call Block) = codes "block"
