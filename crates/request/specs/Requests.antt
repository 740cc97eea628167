-- Requests: what is malformed, and what the fields of a block say.
use Rattle.std.specs.Prelude.{ℕ, Bool, cond, List, [], ◌∷◌, ◌++◌, Some, None, Ok, Err, is_some, Option, Result}
use Rattle.std.specs.List.{flat_map, list_any}
use Rattle.std.specs.Option.{option_map, option_or}
use Rattle.tables.specs.StaticTable.{Field}
use Rattle.tables.specs.DynamicTable.{Dynamic}
use Rattle.hpack.specs.Decoding.{Outcome, decode_list}
use Rattle.request.specs.declared.heard.Head.{Head}
use Rattle.request.specs.declared.heard.Heard.{Heard}
use Rattle.request.specs.declared.heard.Malformed.{Malformed}
use Rattle.request.specs.declared.heard.Malformed.TheVariants.{UpperCase, UnknownColonName, Repeated, AfterPlain, Missing, EmptyPath}
use Rattle.request.specs.declared.kind.Kind.{Kind}
use Rattle.request.specs.declared.kind.Kind.TheVariants.{Method, Scheme, Path, Authority, OtherColon, Priority, OtherPlain}
use Rattle.request.specs.declared.method.Method.{Method as MethodType}
use Rattle.request.specs.declared.path.Path.{Path as PathType}
use Rattle.request.specs.declared.priority.Priority.{Priority as PriorityType}
use Rattle.request.specs.Kinds.{kind_of, is_plain, is_colon, same_kind}
use Rattle.request.specs.Methods.{method_of}
use Rattle.request.specs.Paths.{path_of, is_empty}
use Rattle.request.specs.Priorities.{start_priority, split_at_commas, members_told}
use Rattle.request.specs.Texts.{has_upper}

-- The value of a kind of field, the last where there are several: of a colon name a request that is not malformed has one.
abbrev pub value_of : Kind → List Field → Option (List ℕ)
value_of k [] = None
value_of k (f ∷ fs) = option_or (value_of k fs) (cond (same_kind (kind_of f.0) k) (Some f.1) None)

-- Whether a field is of a kind that passes a test.
abbrev pub any_kind : (Kind → Bool) → List Field → Bool
any_kind test fs = list_any (λ f. test (kind_of f.0)) fs

abbrev pub has_plain : List Field → Bool
has_plain fs = any_kind is_plain fs

abbrev pub has_colon : List Field → Bool
has_colon fs = any_kind is_colon fs

-- Breaches

-- One of the four: not a second time, and not after a plain name.
abbrev pub order_breach : Bool → Bool → Option Malformed
order_breach again late = cond again (Some Repeated) (cond late (Some AfterPlain) None)

-- The breach of a name by its kind, if the kind came before, and if a plain name did.
abbrev pub kind_breach : Kind → Bool → Bool → Option Malformed
kind_breach Method again late = order_breach again late
kind_breach Scheme again late = order_breach again late
kind_breach Path again late = order_breach again late
kind_breach Authority again late = order_breach again late
kind_breach OtherColon again late = Some UnknownColonName
kind_breach Priority again late = None
kind_breach OtherPlain again late = None

abbrev pub name_breach : List ℕ → Bool → Bool → Option Malformed
name_breach n again late = cond (has_upper n) (Some UpperCase) (kind_breach (kind_of n) again late)

-- The breach of a field behind those that came before it.
abbrev pub breach_behind : List Field → Field → Option Malformed
breach_behind before f = name_breach f.0 (is_some (value_of (kind_of f.0) before)) (has_plain before)

-- The first breach of the fields in their order.
abbrev pub breach_from : List Field → List Field → Option Malformed
breach_from before [] = None
breach_from before (f ∷ fs) = option_or (breach_behind before f) (breach_from (before ++ (f ∷ [])) fs)

abbrev pub breach_of : List Field → Option Malformed
breach_of fs = breach_from [] fs

-- What fields say

abbrev pub members_in : Field → List (List ℕ)
members_in f = cond (same_kind (kind_of f.0) Priority) (split_at_commas f.1) []

-- All priority fields are one list of members, in their order.
abbrev pub members_of : List Field → List (List ℕ)
members_of fs = flat_map members_in fs

abbrev pub priority_of : List Field → PriorityType
priority_of fs = members_told start_priority (members_of fs)

-- The head of a request: :method, :scheme and :path have to be there, and the path has an octet.
abbrev pub head_of : Option MethodType → Bool → Option PathType → PriorityType → Result Head Malformed
head_of None scheme p u = Err Missing
head_of (Some m) scheme None u = Err Missing
head_of (Some m) scheme (Some p) u =
    cond scheme (cond (is_empty p) (Err EmptyPath) (Ok (record { method = m; path = p; priority = u }))) (Err Missing)

-- A breach of a field goes before what is missing.
abbrev pub judged : Option Malformed → Result Head Malformed → Result Head Malformed
judged (Some w) h = Err w
judged None h = h

-- The fields as the first block of a request.
abbrev pub request_of : List Field → Result Head Malformed
request_of fs =
    judged (breach_of fs)
    (head_of (option_map method_of (value_of Method fs)) (is_some (value_of Scheme fs)) (option_map path_of (value_of Path fs)) (priority_of fs))

abbrev pub heard_of : List Field → Heard
heard_of fs = record { first = request_of fs; colons = has_colon fs }

-- A whole block: what is heard, or the place of its fault; and the next table.
abbrev pub heard_or : Outcome (List Field) → Result Heard ℕ × Dynamic
heard_or o = elim o.0 [ Ok u ↦ (Ok (heard_of o.2), o.1) | Err p ↦ (Err p, o.1) ]

abbrev pub block_read : Dynamic → List ℕ → Result Heard ℕ × Dynamic
block_read t block = heard_or (decode_list t block)
