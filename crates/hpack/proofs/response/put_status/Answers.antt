use Rattle.std.proofs.Common.{◌≡◌, ℕ, List, [], ◌∷◌, ◌++◌, length, None, codes, decimal, Option, ap, ◌∙◌, arith}
use Rattle.std.proofs.lemmas.List.{append_assoc, length-append}
use Rattle.hpack.specs.Responses.{index_of, status_field, status_form, status_number, three_digits}
use Rattle.hpack.proofs.Statuses.{three_digits_long}
use Rattle.hpack.proofs.response.put_status.Goals as goal

pub put-requires-in-None-2 : goal.put-requires-in-None-2
put-requires-in-None-2 c =
    let digits : c.as_bytes-digits.result.now ≡ three_digits (status_number c.args.status) = c.as_bytes-digits.ensures.value ∙ c.format.ensures.text ∙ ap decimal c.from.ensures.0 ∙ three_digits_long c.args.status in
    let n = ap (λ (xs : List ℕ). length xs) digits in
    let m = ap (λ (xs : List ℕ). length xs) c.put-in-None.ensures in
    omega (arith, n, m, length-append c.args.block.now.items (8 ∷ 3 ∷ []), c.requires)

pub returns-in-None : goal.returns-in-None
returns-in-None c =
    let digits : c.as_bytes-digits.result.now ≡ three_digits (status_number c.args.status) = c.as_bytes-digits.ensures.value ∙ c.format.ensures.text ∙ ap decimal c.from.ensures.0 ∙ three_digits_long c.args.status in
    let none : None ≡ index_of (status_field c.args.status) = c.in-None.ensures.value ∙ ap (λ (ds : List ℕ). index_of (codes ":status", ds)) digits in
    c.put-in-None-2.ensures
    ∙ ap (λ (xs : List ℕ). xs ++ c.as_bytes-digits.result.now) c.put-in-None.ensures
    ∙ append_assoc c.args.block.now.items (8 ∷ 3 ∷ []) c.as_bytes-digits.result.now
    ∙ ap (λ (ds : List ℕ). c.args.block.now.items ++ (8 ∷ 3 ∷ ds)) digits
    ∙ ap (λ (o : Option ℕ). c.args.block.now.items ++ status_form o (three_digits (status_number c.args.status))) none
