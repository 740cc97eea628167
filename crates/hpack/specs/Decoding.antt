-- A field block decoded: one definition over lists, for any fold over the fields.
use Rattle.std.specs.Prelude.{ℕ, zero, suc, ◌+◌, ◌-◌, Bool, true, false, cond, List, [], ◌∷◌, ◌++◌, length, drop, Some, None, Ok, Err, Option, Result, nat_le, nat_lt, slice_get}
use Rattle.primitives.specs.Reads.{value_of, used_of, bind}
use Rattle.representations.specs.Representations.{NameForm, name_at, name_text, Form, indexed_form, literal_form, size_form, representation_of}
use Rattle.tables.specs.StaticTable.{Field, static_entry}
use Rattle.tables.specs.DynamicTable.{Dynamic, grown, resized, largest}

-- The field at an index: the static table up to 61, then the dynamic one, whose newest entry is 62.
abbrev pub field_at : List Field → ℕ → Option Field
field_at fs i = cond (nat_lt i 62) (static_entry i) (slice_get fs (i - 62))

abbrev pub name_for : List Field → NameForm → Option (List ℕ)
name_for fs (name_at i) = bind (field_at fs i) (λ f. Some f.0)
name_for fs (name_text n) = Some n

-- What a representation does: it is at fault, or it gives a field, or a new size; with the table after it.
pub data Effect : Type 0 where
  at_fault : Effect
  gives_field : Field → Dynamic → Effect
  gives_size : Dynamic → Effect

abbrev pub indexed_effect : Dynamic → Option Field → Effect
indexed_effect t None = at_fault
indexed_effect t (Some f) = gives_field f t

-- The name is known before anything is dropped from the table.
abbrev pub literal_effect : Dynamic → Bool → Option (List ℕ) → List ℕ → Effect
literal_effect t adds None v = at_fault
literal_effect t adds (Some n) v = gives_field (n, v) (cond adds (grown t (n, v)) t)

-- A new size is lawful only before all fields of the block, and up to the largest.
abbrev pub size_effect : Dynamic → Bool → ℕ → Effect
size_effect t early n = cond early (cond (nat_le n largest) (gives_size (resized t n)) at_fault) at_fault

-- `early` says that no field came before; nothing is there where the octets are no representation, or are cut.
abbrev pub effect_of : Dynamic → Bool → Option Form → Effect
effect_of t early None = at_fault
effect_of t early (Some (indexed_form i)) = indexed_effect t (field_at t.entries i)
effect_of t early (Some (literal_form adds n v)) = literal_effect t adds (name_for t.entries n) v
effect_of t early (Some (size_form n)) = size_effect t early n

-- How a fold takes one more field: what was folded, the name, the value.
abbrev pub Step : Type 0 → Type 0
Step A = A → List ℕ → List ℕ → A

-- The place of the fault, if there is one, and the table and what was folded up to there or to the end.
abbrev pub Outcome : Type 0 → Type 0
Outcome A = Result (Unit {0}) ℕ × Dynamic × A

-- From the place `at` on, with the octets `xs` left. A representation takes at least one octet, so that `n`, as many turns
-- as there are octets, are enough. The place of a fault is the first octet of the representation at fault.
abbrev pub decode_from : {A : Type 0} → Step A → ℕ → A → Dynamic → Bool → ℕ → List ℕ → Outcome A
decode_from step n a t early at [] = (Ok tt, t, a)
decode_from step zero a t early at (x ∷ xs) = (Err at, t, a)
decode_from step (suc n) a t early at (x ∷ xs) =
    elim (effect_of t early (value_of (representation_of (x ∷ xs)))) [
      | at_fault ↦ (Err at, t, a)
      | gives_field f u ↦ decode_from step n (step a f.0 f.1) u false (at + used_of (representation_of (x ∷ xs))) (drop (used_of (representation_of (x ∷ xs))) (x ∷ xs))
      | gives_size u ↦ decode_from step n a u early (at + used_of (representation_of (x ∷ xs))) (drop (used_of (representation_of (x ∷ xs))) (x ∷ xs))
    ]

-- A whole block, folded field by field.
abbrev pub decode_with : {A : Type 0} → Step A → A → Dynamic → List ℕ → Outcome A
decode_with step a t block = decode_from step (length block) a t true 0 block

abbrev pub listed : Step (List Field)
listed fs n v = fs ++ ((n, v) ∷ [])

-- A whole block: the list of its fields, in order, and the next table; or the place of the fault.
abbrev pub decode_list : Dynamic → List ℕ → Outcome (List Field)
decode_list t block = decode_with listed [] t block

-- A fold over a list of fields.
abbrev pub folded : {A : Type 0} → Step A → A → List Field → A
folded step a [] = a
folded step a (f ∷ fs) = folded step (step a f.0 f.1) fs

-- The outcome with the fold of its fields in place of their list.
abbrev pub refolded : {A : Type 0} → Step A → A → Outcome (List Field) → Outcome A
refolded step a o = (o.0, o.1, folded step a o.2)
