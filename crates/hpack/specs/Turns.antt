-- What the code answers for one representation, against what the representation does.
use Rattle.std.specs.Prelude.{Some, None, Option}
use Rattle.hpack.specs.declared.decode.Turn.{Turn}
use Rattle.hpack.specs.declared.decode.Turn.TheVariants.{Field, Size}
use Rattle.tables.specs.DynamicTable.{Dynamic}
use Rattle.hpack.specs.Decoding.{Step, Effect, at_fault, gives_field, gives_size}

-- The answer, the table then, and what is folded.
abbrev pub ran : {A : Type 0} → Step A → A → Dynamic → Effect → Option Turn × Dynamic × A
ran step a t at_fault = (None, t, a)
ran step a t (gives_field f u) = (Some Field, u, step a f.0 f.1)
ran step a t (gives_size u) = (Some Size, u, a)

-- The same where there is nothing to fold.
abbrev pub ran_size : Dynamic → Effect → Option Turn × Dynamic
ran_size t at_fault = (None, t)
ran_size t (gives_field f u) = (Some Field, u)
ran_size t (gives_size u) = (Some Size, u)
