-- What the code's borrowing answers stand for: the octets behind their references.
use Rattle.std.specs.Prelude.{ℕ, List, Some, None, Option}
use Rattle.std.specs.Borrow.{Bor}
use Rattle.primitives.specs.Reads.{Reading}

abbrev pub read_text : Option (Bor (List ℕ) × ℕ) → Reading (List ℕ)
read_text None = None
read_text (Some p) = Some (p.0.now, p.1)
