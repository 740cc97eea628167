-- Looking a status up in the static table.
use Rattle.std.proofs.Common.{◌≡◌, ℕ, ◌+◌, ◌/◌, ◌%◌, ◌<◌, ◌≤◌, List, [], ◌∷◌, ◌++◌, Some, None, codes, decimal, Option, refl, ap, ◌∙◌, arith}
use Rattle.std.proofs.lemmas.Fmt.{decimal_digit, decimal_step}
use Rattle.std.specs.List.{find, range_with_len}
use Rattle.std.specs.Option.{option_map}
use Rattle.hpack.specs.declared.status.Status.{Status}
use Rattle.hpack.specs.declared.status.Status.TheVariants.{Ok, NoContent, NotFound, MethodNotAllowed, Conflict, UriTooLong, InsufficientStorage}
use Rattle.hpack.specs.Responses.{index_from, index_of, is_field, status_number, three_digits}
use Rattle.tables.specs.StaticTable.{static_entry}

same : (o : Option ℕ) → o ≡ option_map (λ x. x) o
same None = refl
same (Some x) = refl

-- Every static entry that is named :status stands at 8 to 14.
pub only_there :
    (digits : List ℕ) (r : Option ℕ) → option_map (λ x. x) r ≡ find (λ i. is_field (static_entry i) (codes ":status", digits)) (range_with_len 8 7) → r ≡ index_of (codes ":status", digits)
unfolding index_from index_of
only_there digits r e = same r ∙ e

-- The number of a status has three digits.
three : (n : ℕ) → 100 ≤ n → n < 1000 → decimal n ≡ three_digits n
three n low high =
    let h : n / 10 / 10 ≡ n / 100 = omega arith in
    decimal_step n (omega arith) (omega arith)
    ∙ ap (λ (xs : List ℕ). xs ++ (48 + n % 10) ∷ []) (decimal_step (n / 10) (omega arith) (omega arith) ∙ ap (λ (xs : List ℕ). xs ++ (48 + n / 10 % 10) ∷ []) (decimal_digit (n / 10 / 10) (omega arith) ∙ ap (λ m. (48 + m) ∷ []) h))

pub three_digits_long : (s : Status) → decimal (status_number s) ≡ three_digits (status_number s)
three_digits_long Ok = three 200 (omega arith) (omega arith)
three_digits_long NoContent = three 204 (omega arith) (omega arith)
three_digits_long NotFound = three 404 (omega arith) (omega arith)
three_digits_long MethodNotAllowed = three 405 (omega arith) (omega arith)
three_digits_long Conflict = three 409 (omega arith) (omega arith)
three_digits_long UriTooLong = three 414 (omega arith) (omega arith)
three_digits_long InsufficientStorage = three 507 (omega arith) (omega arith)
