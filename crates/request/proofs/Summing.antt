-- The fold over the fields of a block keeps of them what the definitions over their list say.
use Rattle.std.proofs.Common.{◌≡◌, ℕ, Bool, cond, List, [], ◌∷◌, ◌++◌, Some, None, Ok, Err, Option, Result, sym, refl, ap, ◌∙◌, append_assoc, append-nil}
use Rattle.tables.specs.StaticTable.{Field}
use Rattle.tables.specs.DynamicTable.{Dynamic}
use Rattle.hpack.specs.Decoding.{Outcome, folded, refolded}
use Rattle.request.specs.declared.heard.Heard.{Heard}
use Rattle.request.specs.declared.heard.Malformed.{Malformed}
use Rattle.request.specs.declared.heard.Malformed.TheVariants.{UpperCase}
use Rattle.request.specs.declared.kind.Kind.{Kind}
use Rattle.request.specs.declared.kind.Kind.TheVariants.{Method, Scheme, Path, Authority}
use Rattle.request.specs.declared.summary.Summary.{Summary}
use Rattle.request.specs.Kinds.{kind_of, is_plain, is_colon, same_kind}
use Rattle.request.specs.Methods.{method_of}
use Rattle.request.specs.Paths.{path_of}
use Rattle.request.specs.Requests.{breach_behind, breach_of, has_plain, heard_or, kind_breach, name_breach, value_of}
use Rattle.std.specs.Option.{is_some, option_map, option_or}
use Rattle.request.specs.Summaries.{came_in, concluded, summary_of, summed}
use Rattle.request.specs.Texts.{has_upper}
use Rattle.request.proofs.Pushes.{ap-cond, value-push, any_push, priority-push, breach-push}

is_some-option_map : {A B : Type 0} (g : A → B) (o : Option A) → is_some (option_map g o) ≡ is_some o
is_some-option_map g (Some a) = refl
is_some-option_map g None = refl

kind_breach_lem : (k : Kind) (fs : List Field) (late : Bool) → kind_breach k (came_in (summary_of fs) k) late ≡ kind_breach k (is_some (value_of k fs)) late
kind_breach_lem Method fs late = ap (λ (b : Bool). kind_breach Method b late) (is_some-option_map method_of (value_of Method fs))
kind_breach_lem Path fs late = ap (λ (b : Bool). kind_breach Path b late) (is_some-option_map path_of (value_of Path fs))
kind_breach_lem _ fs late = refl

module _ (fs : List Field) (f : Field) where
  breach-is : name_breach f.0 (came_in (summary_of fs) (kind_of f.0)) (has_plain fs) ≡ breach_behind fs f
  breach-is = ap (λ (o : Option Malformed). cond (has_upper f.0) (Some UpperCase) o) (kind_breach_lem (kind_of f.0) fs (has_plain fs))

  -- What is kept of a value is the last one's.
  kept : {A : Type 0} (g : Option (List ℕ) → A) (k : Kind) → cond (same_kind (kind_of f.0) k) (g (Some f.1)) (g (value_of k fs)) ≡ g (value_of k (fs ++ (f ∷ [])))
  kept g k = sym (ap g (value-push f k fs) ∙ ap-cond g (same_kind (kind_of f.0) k) (Some f.1) (value_of k fs))

  one_more : summed (summary_of fs) f.0 f.1 ≡ summary_of (fs ++ (f ∷ []))
  one_more j =
      record {
        method = kept (option_map method_of) Method j;
        scheme = kept is_some Scheme j;
        path = kept (option_map path_of) Path j;
        authority = kept is_some Authority j;
        plain = sym (any_push f is_plain fs) j;
        colons = sym (any_push f is_colon fs) j;
        priority = sym (priority-push f fs) j;
        breach = (ap (option_or (breach_of fs)) breach-is ∙ sym (breach-push f [] fs)) j;
      }

pub summing : (before fs : List Field) → folded summed (summary_of before) fs ≡ summary_of (before ++ fs)
summing before [] = ap summary_of (sym (append-nil before))
summing before (f ∷ fs) =
    ap (λ (s : Summary). folded summed s fs) (one_more before f)
    ∙ summing (before ++ (f ∷ [])) fs
    ∙ ap summary_of (append_assoc before (f ∷ []) fs)

-- A block that is decoded to its end is heard as the list of its fields.
pub heard_all :
    (o : Result (Unit {0}) ℕ) (u : Dynamic) (fs : List Field) (t : Dynamic) (start s : Summary) (h : Heard) → start ≡ summary_of [] → (Ok tt, t, s) ≡ refolded summed start (o, u, fs) → h ≡ concluded s → (Ok h, t) ≡ heard_or (o, u, fs)
heard_all (Ok x) u fs t start s h b e k =
    let summed_up : s ≡ summary_of fs = ap (λ (p : Outcome Summary). p.2) e ∙ ap (λ (z : Summary). folded summed z fs) b ∙ summing [] fs in
    λ j. (Ok ((k ∙ ap concluded summed_up) j), (e j).1)
heard_all (Err x) u fs t start s h b e k = let apart = ap (λ (p : Outcome Summary). p.0) e in absurd (cc)
