-- Decoding what is written of a response gives exactly the fields that it stands for.
use Rattle.std.proofs.Common.{◌≡◌, ℕ, suc, ◌+◌, ◌-◌, ◌%◌, ◌<◌, ◌≤◌, Bool, true, false, ltb, List, [], ◌∷◌, ◌++◌, length, take, drop, Some, Ok as Whole, Err, codes, decimal, sym, refl, ap, ◌∙◌, arith}
use Rattle.std.proofs.lemmas.Fmt.{length-decimal-le}
use Rattle.std.proofs.lemmas.List.{take_at, drop_at, append-nil, length-append}
use Rattle.std.proofs.lemmas.Bool.{lt-ltb, le-ltb, cond-true, cond-false}
use Rattle.hpack.specs.declared.status.Status.{Status}
use Rattle.hpack.specs.declared.status.Status.TheVariants.{Ok, NoContent, NotFound, MethodNotAllowed, Conflict, UriTooLong, InsufficientStorage}
use Rattle.hpack.specs.Decoding.{Outcome, at_fault, decode_from, effect_of, gives_field, gives_size, listed}
use Rattle.tables.specs.DynamicTable.{Dynamic, resized}
use Rattle.primitives.specs.Integers.{integer_of}
use Rattle.primitives.specs.Reads.{Reading, bind, used_of, value_of}
use Rattle.representations.specs.Representations.{Form, literal_form, name_at, representation_of}
use Rattle.hpack.specs.Responses.{ReadsBack, content_octets, index_from, index_of, response_fields, status_octets}
use Rattle.tables.specs.StaticTable.{Field}
use Rattle.primitives.specs.Strings.{string_behind, string_of}

-- A plain string behind its own length.
string_is : (ds more : List ℕ) → length ds < 127 → string_of (length ds ∷ (ds ++ more)) ≡ Some (ds, 1 + length ds)
string_is ds more h =
    let k : ℕ = length ds in
    let xs : List ℕ = k ∷ (ds ++ more) in
    let m : k % 128 ≡ k = omega arith in
    let one : string_of xs ≡ string_behind xs (integer_of 7 xs) = cond-true (ltb k 128) _ _ (lt-ltb _ _ (omega arith)) in
    let two : integer_of 7 xs ≡ Some (k, 1) = cond-true (ltb (k % 128) 127) _ _ (lt-ltb _ _ (omega arith)) ∙ ap (λ i. Some (i, 1)) m in
    let three : string_behind xs (Some (k, 1)) ≡ Some (take k (ds ++ more), 1 + k) = cond-false (ltb (length xs - 1) k) _ _ (le-ltb _ _ (omega (arith, length-append ds more))) in
    one ∙ ap (string_behind xs) two ∙ three ∙ ap (λ (ys : List ℕ). Some (ys, 1 + k)) (take_at ds more k refl)

-- The length of the content, at the end of a block.
module _ (ds : List ℕ) (small : length ds < 127) where
  literal-is : representation_of (15 ∷ 13 ∷ length ds ∷ (ds ++ [])) ≡ Some (literal_form false (name_at 28) ds, 2 + (1 + length ds))
  literal-is = ap (λ (o : Reading (List ℕ)). bind o (λ (s : List ℕ × ℕ). Some (literal_form false (name_at 28) s.0, 2 + s.1))) (string_is ds [] small)

  -- What a turn makes of what was read.
  turned : ℕ → List Field → Dynamic → Bool → ℕ → List ℕ → Reading Form → Outcome (List Field)
  turned m fs t early at xs o =
      elim (effect_of t early (value_of o)) [
        | at_fault ↦ (Err at, t, fs)
        | gives_field f u ↦ decode_from listed m (listed fs f.0 f.1) u false (at + used_of o) (drop (used_of o) xs)
        | gives_size u ↦ decode_from listed m fs u early (at + used_of o) (drop (used_of o) xs)
      ]

  length-turn :
      (m : ℕ) (fs : List Field) (t : Dynamic) (early : Bool) (at : ℕ) → decode_from listed (suc m) fs t early at (15 ∷ 13 ∷ length ds ∷ ds) ≡ (Whole tt, t, listed fs (codes "content-length") ds)
  unfolding turned
  length-turn m fs t early at =
      let xs : List ℕ = 15 ∷ 13 ∷ length ds ∷ (ds ++ []) in
      let n : 2 + (1 + length ds) ≡ suc (suc (suc (length ds))) = omega arith in
      ap (λ (l : List ℕ). decode_from listed (suc m) fs t early at (15 ∷ 13 ∷ length ds ∷ l)) (sym (append-nil ds))
      ∙ ap (turned m fs t early at xs) literal-is
      ∙ ap (decode_from listed m (listed fs (codes "content-length") ds) t false (at + (2 + (1 + length ds)))) (ap (λ k. drop k xs) n ∙ drop_at ds [] (length ds) refl)

few : (n : ℕ) → n < 2147483648 → length (decimal n) ≤ 10
few n h = length-decimal-le 10 n (omega arith) (omega arith) (omega arith)

reads :
    (t : Dynamic) (early : Bool) (at : ℕ) (s : Status) (n : ℕ) → n < 2147483648 → decode_from listed (length (status_octets s ++ content_octets s n)) [] t early at (status_octets s ++ content_octets s n) ≡ (Whole tt, t, response_fields s n)
unfolding index_from index_of
reads t early at Ok n h = length-turn (decimal n) (omega (arith, few n h)) (suc (suc (length (decimal n)))) ((codes ":status", codes "200") ∷ []) t false (at + 1)
reads t early at NoContent n h = refl
reads t early at NotFound n h = refl
reads t early at MethodNotAllowed n h = refl
reads t early at Conflict n h = refl
reads t early at UriTooLong n h = refl
reads t early at InsufficientStorage n h = refl

pub reads_back : ReadsBack
reads_back true s n t h = reads (resized t 0) true (0 + 1) s n h
reads_back false s n t h = reads t true 0 s n h

-- What the writer counts on: 200 takes one octet, and only 200 says a length.
pub ok_short : length (status_octets Ok) ≡ 1
unfolding index_from index_of
ok_short = refl

pub no_content : (s : Status) (n : ℕ) → (s ≡ Ok → ⊥) → [] ≡ content_octets s n
no_content Ok n h = absurd (h refl)
no_content NoContent n h = refl
no_content NotFound n h = refl
no_content MethodNotAllowed n h = refl
no_content Conflict n h = refl
no_content UriTooLong n h = refl
no_content InsufficientStorage n h = refl
