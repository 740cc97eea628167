-- A representation that is read takes at least one octet.
use Rattle.std.proofs.Common.{ℕ, ◌+◌, ◌-◌, ◌%◌, ◌^◌, ◌≤◌, nat_le, nat_lt, Bool, true, false, cond, List, [], ◌∷◌, take, drop, Some, None, ◌==◌, IfSome, arith}
use Rattle.primitives.specs.Reads.{Reading, bind}
use Rattle.primitives.specs.Integers.{further, integer_of}
use Rattle.primitives.specs.Strings.{string_of}
use Rattle.representations.specs.Representations.{literal_of, name_of, representation_of}

pub record Moves {X : Type 0} (o : Reading X) : Type 0 where
  pub some : IfSome o (λ p. 1 ≤ p.1)

nothing : {X : Type 0} → Moves {X = X} None
nothing = record { some = tt }

something : {X : Type 0} (x : X) (n : ℕ) → 1 ≤ n → Moves (Some (x, n))
something x n h = record { some = h }

either : {X : Type 0} (b : Bool) {o q : Reading X} → Moves o → Moves q → Moves (cond b o q)
either true g h = g
either false g h = h

-- One thing behind another.
behind : {X Y : Type 0} (o : Reading X) (f : X × ℕ → Reading Y) → Moves o → ((p : X × ℕ) → 1 ≤ p.1 → Moves (f p)) → Moves (bind o f)
behind None f g h = nothing
behind (Some p) f g h = h p g.some

string_behind : {X Y : Type 0} (o : Reading X) (n : ℕ) (f : X → Y) → 1 ≤ n → Moves (bind o (λ s. Some (f s.0, n + s.1)))
string_behind None n f h = nothing
string_behind (Some s) n f h = something _ _ (omega (arith, h))

further_moves : (xs : List ℕ) (v w u : ℕ) → Moves (further v w u xs)
further_moves [] v w u = nothing
further_moves (b ∷ xs) v w u = either _ (something _ _ (omega arith)) (further_moves xs _ _ _)

integer_moves : (bits : ℕ) (xs : List ℕ) → Moves (integer_of bits xs)
integer_moves bits [] = nothing
integer_moves bits (a ∷ xs) =
    let n : ℕ = a % 2 ^ bits in
    either (nat_lt n (2 ^ bits - 1)) (something n 1 (omega arith)) (further_moves (take 4 xs) n 1 1)

name_moves : (bits : ℕ) (xs : List ℕ) → Moves (name_of bits xs)
name_moves bits xs = behind _ _ (integer_moves bits xs) (λ p h. either (p.0 == 0) (string_behind (string_of (drop p.1 xs)) p.1 _ h) (something _ _ h))

literal_moves : (adds : Bool) (bits : ℕ) (xs : List ℕ) → Moves (literal_of adds bits xs)
literal_moves adds bits xs = behind _ _ (name_moves bits xs) (λ p h. string_behind (string_of (drop p.1 xs)) p.1 _ h)

pub representation_moves : (xs : List ℕ) → Moves (representation_of xs)
representation_moves [] = nothing
representation_moves (a ∷ xs) =
    either (nat_le 128 a) (behind _ _ (integer_moves 7 (a ∷ xs)) (λ p h. something _ _ h))
    (either (nat_le 64 a) (literal_moves true 6 (a ∷ xs))
    (either (nat_le 32 a) (behind _ _ (integer_moves 5 (a ∷ xs)) (λ p h. something _ _ h))
    (literal_moves false 4 (a ∷ xs))))
