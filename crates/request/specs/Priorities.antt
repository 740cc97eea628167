-- The priority field (RFC 9218): a list whose members are split at commas, of which a few say something.
use Rattle.std.specs.Prelude.{ℕ, ◌-◌, Bool, true, false, cond, ◌||◌, List, length, take, drop, Some, None, codes, fold, Option, ◌==◌}
use Rattle.std.specs.List.{prefix_len, slice_split, suffix_len}
use Rattle.std.specs.Str.{bytes_eq}
use Rattle.request.specs.declared.priority.Urgency.{Urgency}
use Rattle.request.specs.declared.priority.Urgency.TheVariants.{U0, U1, U2, U3, U4, U5, U6, U7}
use Rattle.request.specs.declared.priority.Priority.{Priority}

abbrev pub urgency_number : Urgency → ℕ
urgency_number U0 = 0
urgency_number U1 = 1
urgency_number U2 = 2
urgency_number U3 = 3
urgency_number U4 = 4
urgency_number U5 = 5
urgency_number U6 = 6
urgency_number U7 = 7

-- The priority of a request that says nothing of it.
abbrev pub start_priority : Priority
start_priority = record { urgency = U3; incremental = false }

abbrev pub with_urgency : Priority → Urgency → Priority
with_urgency p u = record { urgency = u; incremental = p.incremental }

abbrev pub with_incremental : Priority → Bool → Priority
with_incremental p i = record { urgency = p.urgency; incremental = i }

abbrev pub is_comma : ℕ → Bool
is_comma c = c == 44

-- A comma always splits, also inside of quotes; two commas have an empty member between them.
abbrev pub split_at_commas : List ℕ → List (List ℕ)
split_at_commas cs = slice_split is_comma cs

-- Spaces and tabs.
abbrev pub is_blank : ℕ → Bool
is_blank c = c == 32 || c == 9

abbrev pub trimmed_front : List ℕ → List ℕ
trimmed_front m = drop (prefix_len is_blank m) m

abbrev pub trimmed_back : List ℕ → List ℕ
trimmed_back m = take (length m - suffix_len is_blank m) m

abbrev pub trimmed : List ℕ → List ℕ
trimmed m = trimmed_back (trimmed_front m)

-- The urgency that a trimmed member names: exactly one of these eight.
abbrev pub urgency_of : List ℕ → Option Urgency
urgency_of m =
    cond (bytes_eq m (codes "u=0")) (Some U0)
    (cond (bytes_eq m (codes "u=1")) (Some U1)
    (cond (bytes_eq m (codes "u=2")) (Some U2)
    (cond (bytes_eq m (codes "u=3")) (Some U3)
    (cond (bytes_eq m (codes "u=4")) (Some U4)
    (cond (bytes_eq m (codes "u=5")) (Some U5)
    (cond (bytes_eq m (codes "u=6")) (Some U6)
    (cond (bytes_eq m (codes "u=7")) (Some U7) None)))))))

abbrev pub urged : Priority → Option Urgency → Priority
urged p (Some u) = with_urgency p u
urged p None = p

-- What a trimmed member does to the priority so far: a member of any other form is as if not there.
abbrev pub told : Priority → List ℕ → Priority
told p m =
    cond (bytes_eq m (codes "i")) (with_incremental p true)
    (cond (bytes_eq m (codes "i=?1")) (with_incremental p true)
    (cond (bytes_eq m (codes "i=?0")) (with_incremental p false) (urged p (urgency_of m))))

-- One member after the other: the last that says something wins.
abbrev pub member_told : Priority → List ℕ → Priority
member_told p m = told p (trimmed m)

abbrev pub members_told : Priority → List (List ℕ) → Priority
members_told p ms = fold member_told p ms
