-- What a line begins with.
use Rattle.std.specs.Prelude.{◌≡◌, ℕ, ◌==◌, List, ◌++◌, codes}
use Rattle.std.specs.Char.{is_not_whitespace}
use Rattle.std.specs.List.{before_first}
use Rattle.std.specs.Str.{NoCharPasses}
use Rattle.script.specs.Words.{spelling}
use Rattle.script.specs.declared.word.CallWord.{CallWord}
use Rattle.script.specs.declared.word.CallWord.TheVariants as call-words
use Rattle.script.specs.declared.word.SettingWord.{SettingWord}
use Rattle.script.specs.declared.word.SettingWord.TheVariants as setting-words
use Rattle.script.specs.declared.word.Word.{Word}
use Rattle.script.specs.declared.word.Word.TheVariants as word
use Rattle.script.specs.declared.line.Base.{Base}
use Rattle.script.specs.declared.line.Base.TheVariants.{LineTest, Shelf}
use Rattle.script.specs.declared.line.Line.{Line}
use Rattle.script.specs.declared.line.Line.TheVariants as line
use Rattle.script.specs.declared.line.Setting.{Setting}
use Rattle.script.specs.declared.line.Setting.TheVariants as setting
use Rattle.script.specs.declared.line.Call.{Call}
use Rattle.script.specs.declared.line.Call.TheVariants as call

-- the part of a line before its comment, which `#` (35) starts
abbrev pub code_of : List ℕ → List ℕ
code_of text = before_first (λ c. c == 35) text

-- the word that each setting and call begins with
abbrev pub setting_word : Setting → SettingWord
setting_word (setting.Scheduler s) = setting-words.Scheduler
setting_word (setting.Site s) = setting-words.Site
setting_word (setting.Book n) = setting-words.Book
setting_word (setting.Show s) = setting-words.Show

abbrev pub call_word : Call → CallWord
call_word (call.Greet w) = call-words.Greet
call_word (call.Take w) = call-words.Take
call_word (call.Send n) = call-words.Send
call_word call.Claim = call-words.Claim
call_word (call.Answer k a) = call-words.Answer
call_word call.Shut = call-words.Shut
call_word (call.Offers offers) = call-words.Offers
call_word (call.Pick n) = call-words.Pick
call_word (call.Fetch w) = call-words.Fetch
call_word (call.Block w) = call-words.Block

-- the word for what a site stands on
abbrev pub base_spelling : {O : Type 0} → Base O → List ℕ
base_spelling LineTest = codes "line"
base_spelling (Shelf octets) = codes "shelf"

-- the word is there, behind nothing but white space
abbrev pub BeginsWith : List ℕ → Word → Type 0
BeginsWith text w = (gap more : List ℕ) × (text ≡ gap ++ (spelling w ++ more)) × NoCharPasses is_not_whitespace gap

-- a line begins with its word, and only a blank line has none
abbrev pub Begins : List ℕ → Line → Type 0
Begins text line.Blank = NoCharPasses is_not_whitespace text
Begins text (line.Setting s) = BeginsWith text (word.Setting (setting_word s))
Begins text (line.Call k) = BeginsWith text (word.Call (call_word k))
