-- What a list of fields says, as one more field comes behind it.
use Rattle.std.proofs.Common.{◌≡◌, ℕ, Bool, true, false, cond, ◌||◌, List, [], ◌∷◌, ◌++◌, Some, None, Option, sym, refl, ap, ◌∙◌, append_assoc, append-nil}
use Rattle.std.proofs.Math.Bool.{or-false}
use Rattle.std.proofs.lemmas.Grind.{flat_map-append}
use Rattle.std.proofs.lemmas.List.Folds.{list_any-append}
use Rattle.std.proofs.lemmas.List.Sums.{fold-append}
use Rattle.std.specs.Option.{option_or}
use Rattle.tables.specs.StaticTable.{Field}
use Rattle.request.specs.declared.kind.Kind.{Kind}
use Rattle.request.specs.declared.kind.Kind.TheVariants.{Priority}
use Rattle.request.specs.Kinds.{kind_of, same_kind}
use Rattle.request.specs.Priorities.{member_told, members_told, split_at_commas, start_priority}
use Rattle.request.specs.Requests.{any_kind, breach_behind, breach_from, members_in, members_of, priority_of, value_of}

option_or-none : {A : Type 0} (a : Option A) → option_or a None ≡ a
option_or-none (Some x) = refl
option_or-none None = refl

option_or_assoc : {A : Type 0} (a b c : Option A) → option_or a (option_or b c) ≡ option_or (option_or a b) c
option_or_assoc (Some x) b c = refl
option_or_assoc None b c = refl

pub ap-cond : {A B : Type 0} (g : A → B) (b : Bool) (x y : A) → g (cond b x y) ≡ cond b (g x) (g y)
ap-cond g true x y = refl
ap-cond g false x y = refl

module _ (f : Field) where
  pub value-push : (k : Kind) (fs : List Field) → value_of k (fs ++ (f ∷ [])) ≡ cond (same_kind (kind_of f.0) k) (Some f.1) (value_of k fs)
  value-push k [] = refl
  value-push k (g ∷ fs) =
      let p : Option (List ℕ) = cond (same_kind (kind_of g.0) k) (Some g.1) None in
      ap (λ (o : Option (List ℕ)). option_or o p) (value-push k fs) ∙ ap-cond (λ (o : Option (List ℕ)). option_or o p) (same_kind (kind_of f.0) k) (Some f.1) (value_of k fs)

  pub any_push : (test : Kind → Bool) (fs : List Field) → any_kind test (fs ++ (f ∷ [])) ≡ (any_kind test fs || test (kind_of f.0))
  any_push test fs =
      list_any-append (λ g. test (kind_of g.0)) fs (f ∷ []) ∙ ap (λ (b : Bool). any_kind test fs || b) (or-false (test (kind_of f.0)))

  pub priority-push : (fs : List Field) → priority_of (fs ++ (f ∷ [])) ≡ cond (same_kind (kind_of f.0) Priority) (members_told (priority_of fs) (split_at_commas f.1)) (priority_of fs)
  priority-push fs =
      ap (members_told start_priority) (flat_map-append members_in fs (f ∷ []))
      ∙ fold-append member_told start_priority (members_of fs) (members_in f ++ [])
      ∙ ap (members_told (priority_of fs)) (append-nil (members_in f))
      ∙ ap-cond (members_told (priority_of fs)) (same_kind (kind_of f.0) Priority) (split_at_commas f.1) []

  pub breach-push : (before fs : List Field) → breach_from before (fs ++ (f ∷ [])) ≡ option_or (breach_from before fs) (breach_behind (before ++ fs) f)
  breach-push before [] = option_or-none (breach_behind before f) ∙ ap (λ (l : List Field). breach_behind l f) (sym (append-nil before))
  breach-push before (g ∷ fs) =
      ap (option_or (breach_behind before g)) (breach-push (before ++ (g ∷ [])) fs)
      ∙ option_or_assoc (breach_behind before g) (breach_from (before ++ (g ∷ [])) fs) (breach_behind (before ++ (g ∷ []) ++ fs) f)
      ∙ ap (λ (l : List Field). option_or (breach_from before (g ∷ fs)) (breach_behind l f)) (append_assoc before (g ∷ []) fs)
