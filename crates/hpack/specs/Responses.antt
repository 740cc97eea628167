-- The field block of a response: its status, and on 200 the length of its content.
use Rattle.std.specs.Prelude.{◌≡◌, ℕ, zero, suc, ◌+◌, ◌/◌, ◌%◌, ◌^◌, ◌<◌, Bool, false, cond, ◌&&◌, List, [], ◌∷◌, ◌++◌, length, Some, None, Ok as Whole, codes, decimal, Option}
use Rattle.std.specs.Str.{bytes_eq}
use Rattle.hpack.specs.declared.status.Status.{Status}
use Rattle.hpack.specs.declared.status.Status.TheVariants.{Ok, NoContent, NotFound, MethodNotAllowed, Conflict, UriTooLong, InsufficientStorage}
use Rattle.tables.specs.StaticTable.{Field, static_entry}
use Rattle.tables.specs.DynamicTable.{Dynamic, resized}
use Rattle.hpack.specs.Decoding.{decode_list}

abbrev pub status_number : Status → ℕ
status_number Ok = 200
status_number NoContent = 204
status_number NotFound = 404
status_number MethodNotAllowed = 405
status_number Conflict = 409
status_number UriTooLong = 414
status_number InsufficientStorage = 507

-- The three digits of a number below 1,000; the digit 0 is the octet 48.
abbrev pub three_digits : ℕ → List ℕ
three_digits n = (48 + n / 100) ∷ (48 + n / 10 % 10) ∷ (48 + n % 10) ∷ []

abbrev pub status_field : Status → Field
status_field s = (codes ":status", three_digits (status_number s))

abbrev pub is_field : Option Field → Field → Bool
is_field None g = false
is_field (Some f) g = bytes_eq f.0 g.0 && bytes_eq f.1 g.1

-- The first index whose static entry is a field, looked for at n indices from i on.
unfoldable pub index_from : ℕ → ℕ → Field → Option ℕ
index_from zero i f = None
index_from (suc n) i f = cond (is_field (static_entry i) f) (Some i) (index_from n (i + 1) f)

-- The index of a field in the whole static table.
unfoldable pub index_of : Field → Option ℕ
index_of f = index_from 61 1 f

-- Indexed, or a literal that is not added, with the name of the entry 8 and a plain string of three octets.
abbrev pub status_form : Option ℕ → List ℕ → List ℕ
status_form (Some i) digits = (128 + i) ∷ []
status_form None digits = 8 ∷ 3 ∷ digits

-- Indexed where the static table has the status.
abbrev pub status_octets : Status → List ℕ
status_octets s = status_form (index_of (status_field s)) (three_digits (status_number s))

-- A literal that is not added, with the name of the entry 28 (15 and 13 more) and the digits as a plain string.
abbrev pub length_octets : ℕ → List ℕ
length_octets n = 15 ∷ 13 ∷ length (decimal n) ∷ decimal n

-- Only 200 says a length.
abbrev pub content_octets : Status → ℕ → List ℕ
content_octets Ok n = length_octets n
content_octets NoContent n = []
content_octets NotFound n = []
content_octets MethodNotAllowed n = []
content_octets Conflict n = []
content_octets UriTooLong n = []
content_octets InsufficientStorage n = []

-- Where the reader asked for a smaller table, the block begins with the new size 0.
abbrev pub shrink_octets : Bool → List ℕ
shrink_octets shrink = cond shrink (32 ∷ []) []

abbrev pub response_octets : Bool → Status → ℕ → List ℕ
response_octets shrink s n = shrink_octets shrink ++ (status_octets s ++ content_octets s n)

-- The fields that a response stands for.
abbrev pub content_fields : Status → ℕ → List Field
content_fields Ok n = (codes "content-length", decimal n) ∷ []
content_fields NoContent n = []
content_fields NotFound n = []
content_fields MethodNotAllowed n = []
content_fields Conflict n = []
content_fields UriTooLong n = []
content_fields InsufficientStorage n = []

abbrev pub response_fields : Status → ℕ → List Field
response_fields s n = status_field s ∷ content_fields s n

abbrev pub table_after : Bool → Dynamic → Dynamic
table_after shrink t = cond shrink (resized t 0) t

-- Whatever the reader's table holds, a block decodes to exactly the fields that it stands for:
-- for every status, every length up to 2 ^ 31 - 1, with and without the new size.
abbrev pub ReadsBack : Type 0
ReadsBack =
    (shrink : Bool) (s : Status) (n : ℕ) (t : Dynamic) → n < 2 ^ 31
    → decode_list t (response_octets shrink s n) ≡ (Whole tt, table_after shrink t, response_fields s n)
