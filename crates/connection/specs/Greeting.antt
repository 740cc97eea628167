-- The client's greeting.
use Rattle.std.specs.Prelude.{ℕ, Bool, cond, List, [], ◌∷◌, ◌++◌, length, Ok, Err, codes, Result, ◌==◌}
use Rattle.std.specs.Str.{bytes_eq}
use Rattle.state.specs.declared.refusal.Refusal.{Refusal}
use Rattle.state.specs.declared.refusal.Refusal.TheVariants as refusal
use Rattle.connection.specs.declared.greeting.Greeted.{Greeted}

-- "PRI * HTTP/2.0", an empty line, "SM", an empty line; a line ends with a carriage return and a line feed.
abbrev pub preface : List ℕ
preface = codes "PRI * HTTP/2.0" ++ (13 ∷ 10 ∷ 13 ∷ 10 ∷ 83 ∷ 77 ∷ 13 ∷ 10 ∷ 13 ∷ 10 ∷ [])

abbrev pub is_preface : List ℕ → Bool
is_preface octets = bytes_eq octets preface

abbrev pub mark : Greeted
mark = record { mark = tt }

-- Are exactly 24 octets given? Are they the preface?
abbrev pub greeted : List ℕ → Result Greeted Refusal
greeted octets =
    cond (length octets == 24) (cond (is_preface octets) (Ok mark) (Err refusal.Greeting)) (Err refusal.GreetingLength)
