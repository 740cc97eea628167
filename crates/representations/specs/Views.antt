-- What the code's borrowing values stand for: the octets behind their references.
use Rattle.std.specs.Prelude.{ℕ, List, Some, None, Option}
use Rattle.std.specs.Borrow.{Bor}
use Rattle.primitives.specs.Reads.{Reading}
use Rattle.representations.specs.Representations.{NameForm, name_at, name_text, Form, indexed_form, literal_form, size_form}
use Rattle.representations.specs.declared.representation.Name.{Name}
use Rattle.representations.specs.declared.representation.Name.TheVariants.{Index, Text}
use Rattle.representations.specs.declared.representation.Representation.{Representation}
use Rattle.representations.specs.declared.representation.Representation.TheVariants.{Indexed, Literal, Size}

abbrev pub shown_text : Option (Bor (List ℕ)) → Option (List ℕ)
shown_text None = None
shown_text (Some x) = Some x.now

abbrev pub shown_name : Name → NameForm
shown_name (Index n) = name_at n
shown_name (Text x) = name_text x.now

abbrev pub read_name : Option (Name × ℕ) → Reading NameForm
read_name None = None
read_name (Some p) = Some (shown_name p.0, p.1)

abbrev pub shown_form : Representation → Form
shown_form (Indexed n) = indexed_form n
shown_form (Literal adds n v) = literal_form adds (shown_name n) v.now
shown_form (Size n) = size_form n

abbrev pub shown_forms : Option Representation → Option Form
shown_forms None = None
shown_forms (Some x) = Some (shown_form x)

abbrev pub read_form : Option (Representation × ℕ) → Reading Form
read_form None = None
read_form (Some p) = Some (shown_form p.0, p.1)
