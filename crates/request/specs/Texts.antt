-- Rows of octets.
use Rattle.std.specs.Prelude.{ℕ, Bool, List, ◌-◌, ◌++◌, length, take, replicate}
use Rattle.std.specs.Char.{is_ascii_uppercase}
use Rattle.std.specs.List.{list_any}

-- The first n octets of a text, with zeros behind a shorter one.
abbrev pub padded : ℕ → List ℕ → List ℕ
padded n text = take n text ++ replicate (n - length text) 0

-- Whether a name has a letter A to Z.
abbrev pub has_upper : List ℕ → Bool
has_upper name = list_any is_ascii_uppercase name
