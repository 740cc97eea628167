-- What the code's borrowing answers stand for: the octets behind their references.
use Rattle.std.specs.Prelude.{ℕ, List, Some, None, Option}
use Rattle.std.specs.Borrow.{Bor}

-- A field: name and value.
abbrev pub shown_pair : Bor (List ℕ) × Bor (List ℕ) → List ℕ × List ℕ
shown_pair p = (p.0.now, p.1.now)

abbrev pub shown_field : Option (Bor (List ℕ) × Bor (List ℕ)) → Option (List ℕ × List ℕ)
shown_field None = None
shown_field (Some p) = Some (shown_pair p)
