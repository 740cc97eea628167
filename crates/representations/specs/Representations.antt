-- The representations that a field block is made of (RFC 7541, section 6).
use Rattle.std.specs.Prelude.{ℕ, ◌+◌, Bool, true, false, cond, List, [], ◌∷◌, drop, Some, None, ◌==◌, nat_le}
use Rattle.primitives.specs.Reads.{Reading, bind}
use Rattle.primitives.specs.Integers.{integer_of}
use Rattle.primitives.specs.Strings.{string_of}

-- The name of a literal field: that of the entry at an index, or a text.
pub data NameForm : Type 0 where
  name_at : ℕ → NameForm
  name_text : List ℕ → NameForm

-- An entry of the tables; a literal field, added to the dynamic table or not; a new size of that table.
pub data Form : Type 0 where
  indexed_form : ℕ → Form
  literal_form : Bool → NameForm → List ℕ → Form
  size_form : ℕ → Form

-- A name index of 0 means that the name follows as a string.
abbrev pub name_behind : List ℕ → ℕ × ℕ → Reading NameForm
name_behind xs p =
    cond (p.0 == 0)
    (bind (string_of (drop p.1 xs)) (λ s. Some (name_text s.0, p.1 + s.1)))
    (Some (name_at p.0, p.1))

abbrev pub name_of : ℕ → List ℕ → Reading NameForm
name_of bits xs = bind (integer_of bits xs) (name_behind xs)

-- After the name comes the value.
abbrev pub value_behind : Bool → List ℕ → NameForm × ℕ → Reading Form
value_behind adds xs n =
    bind (string_of (drop n.1 xs)) (λ s. Some (literal_form adds n.0 s.0, n.1 + s.1))

abbrev pub literal_of : Bool → ℕ → List ℕ → Reading Form
literal_of adds bits xs = bind (name_of bits xs) (value_behind adds xs)

-- The first bits tell: 1 indexed, 01 literal and added, 001 new size, 0000 and 0001 literal and not added.
abbrev pub representation_of : List ℕ → Reading Form
representation_of [] = None
representation_of (a ∷ xs) =
    cond (nat_le 128 a) (bind (integer_of 7 (a ∷ xs)) (λ p. Some (indexed_form p.0, p.1)))
    (cond (nat_le 64 a) (literal_of true 6 (a ∷ xs))
    (cond (nat_le 32 a) (bind (integer_of 5 (a ∷ xs)) (λ p. Some (size_form p.0, p.1)))
    (literal_of false 4 (a ∷ xs))))
