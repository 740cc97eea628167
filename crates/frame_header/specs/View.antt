-- What the code's answers say, with lists in place of what they borrow.
use Rattle.std.specs.Prelude.{ℕ, List, Some, None, Option}
use Rattle.std.specs.Borrow.{Bor}
use Rattle.frame_header.specs.declared.header.Header.{Header}

abbrev pub split_view : Option (Header × Bor (List ℕ)) → Option (Header × List ℕ)
split_view None = None
split_view (Some p) = Some (p.0, p.1.now)
