-- What the digits of a script stand for is what decoding them answers.
use Rattle.std.proofs.Common.{◌≡◌, ℕ, ◌+◌, ◌*◌, ◌%◌, false, List, [], ◌∷◌, length, Option, Some, None, Result, Ok, Err, sym, refl, ap, ◌∙◌, arith, codes}
use Rattle.std.proofs.lemmas.Bool.Decides.{nat_tests}
use Rattle.std.specs.Str.{bytes_eq}
use Rattle.std.specs.Result.{result_ok}
use Rattle.hex.specs.Hex.{decode_of, decode_pairs, digit_or_error, hex_digit_value, pair_value, ◌>>=◌}
use Rattle.hex.specs.declared.error.FromHexError.{FromHexError}
use Rattle.script.specs.Text.{nibble, octet_of, before, hex_octets, word_octets}

-- a digit's value is that of either reading
digit : (c : ℕ) → hex_digit_value c ≡ nibble c
digit c = grind (arith)

-- two digits that were read one after the other
two : (a b i : ℕ) (high low : Option ℕ)
    → result_ok (digit_or_error a i high >>= λ h. digit_or_error b (i + 1) low >>= λ l. Ok (h * 16 + l)) ≡ octet_of high low
two a b i None low = refl
two a b i (Some h) None = refl
two a b i (Some h) (Some l) = refl

-- an octet before others
one : (o : Result ℕ FromHexError) (r : Result (List ℕ) FromHexError)
    → result_ok (o >>= λ x. r >>= λ xs. Ok (x ∷ xs)) ≡ before (result_ok o) (result_ok r)
one (Err e) r = refl
one (Ok x) (Err e) = refl
one (Ok x) (Ok xs) = refl

pairs : (i : ℕ) (text : List ℕ) → result_ok (decode_pairs i text) ≡ hex_octets text
unfolding decode_pairs hex_octets
pairs i [] = refl
pairs i (a ∷ []) = refl
pairs i (a ∷ b ∷ rest) =
    one (pair_value a b i) (decode_pairs (i + 2) rest)
    ∙ rw (pairs (i + 2) rest, two a b i (hex_digit_value a) (hex_digit_value b), digit a, digit b)

nothing : (o : Option ℕ) → before o None ≡ None
nothing None = refl
nothing (Some x) = refl

-- a digit that is left over
odd : (text : List ℕ) → length text % 2 ≡ 1 → hex_octets text ≡ None
unfolding hex_octets
odd [] h = absurd (omega arith)
odd (a ∷ []) h = refl
odd (a ∷ b ∷ rest) h = rw (odd rest (omega arith)) (nothing (octet_of (nibble a) (nibble b)))

decoded : (text : List ℕ) → result_ok (decode_of text) ≡ hex_octets text
decoded text = grind (arith, nat_tests, odd text, pairs 0 text)

-- a word that is not `-` stands for its digits
digits : (word : List ℕ) → false ≡ bytes_eq word (codes "-") → word_octets word ≡ result_ok (decode_of word)
digits word other = rw (← other) (sym (decoded word))

pub taken : (word octets : List ℕ) → false ≡ bytes_eq word (codes "-") → decode_of word ≡ Ok octets → word_octets word ≡ Some octets
taken word octets other h = digits word other ∙ ap result_ok h

pub refused : (word : List ℕ) (e : FromHexError) → false ≡ bytes_eq word (codes "-") → decode_of word ≡ Err e → word_octets word ≡ None
refused word e other h = digits word other ∙ ap result_ok h
