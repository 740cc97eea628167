-- What a field is by its name: one of the four that a request may have with a colon, another name with a colon, or a plain name.
use Rattle.std.specs.Prelude.{ℕ, Bool, true, false, cond, not, List, [], ◌∷◌, codes, ◌==◌}
use Rattle.std.specs.Str.{bytes_eq}
use Rattle.request.specs.declared.kind.Kind.{Kind}
use Rattle.request.specs.declared.kind.Kind.TheVariants.{Method, Scheme, Path, Authority, OtherColon, Priority, OtherPlain}

abbrev pub colon_kind : List ℕ → Kind
colon_kind n =
    cond (bytes_eq n (codes ":method")) Method
    (cond (bytes_eq n (codes ":scheme")) Scheme
    (cond (bytes_eq n (codes ":path")) Path
    (cond (bytes_eq n (codes ":authority")) Authority OtherColon)))

abbrev pub plain_kind : List ℕ → Kind
plain_kind n = cond (bytes_eq n (codes "priority")) Priority OtherPlain

-- Whether a name begins with a colon.
abbrev pub begun : List ℕ → Bool
begun [] = false
begun (c ∷ cs) = c == 58

abbrev pub kind_of : List ℕ → Kind
kind_of n = cond (begun n) (colon_kind n) (plain_kind n)

abbrev pub is_plain : Kind → Bool
is_plain Method = false
is_plain Scheme = false
is_plain Path = false
is_plain Authority = false
is_plain OtherColon = false
is_plain Priority = true
is_plain OtherPlain = true

abbrev pub is_colon : Kind → Bool
is_colon k = not (is_plain k)

-- Kinds are told apart by a number.
abbrev pub kind_number : Kind → ℕ
kind_number Method = 0
kind_number Scheme = 1
kind_number Path = 2
kind_number Authority = 3
kind_number OtherColon = 4
kind_number Priority = 5
kind_number OtherPlain = 6

abbrev pub same_kind : Kind → Kind → Bool
same_kind a b = kind_number a == kind_number b
