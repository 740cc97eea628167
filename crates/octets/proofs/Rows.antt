-- What a write over a part of a row's memory leaves behind its octets: zeros.
use Rattle.std.proofs.Common.{◌≡◌, ℕ, ◌+◌, ◌-◌, ◌≤◌, List, ◌++◌, length, drop, replicate, sym, ap, zero-le, ◌∙◌, arith}
use borrow.Rule.Slice.PartMut.{put_mid, Post-is}
use Rattle.std.proofs.lemmas.List.{drop-drop, drop-replicate, replicate-append-replicate}
use Rattle.std.proofs.lemmas.Slice.{drop-put_mid}
use Rattle.octets.specs.Rows.{IsRow}

module _ (n used : ℕ) (memory : List ℕ) (row : IsRow n used memory) where
  -- Behind a text that was laid behind the octets.
  pub zeros_behind : (text new : List ℕ) (end : ℕ) → new ≡ text → end ≡ used + length text → end ≤ n → drop end (put_mid used (end - used) memory new) ≡ replicate (n - end) 0
  zeros_behind text new end e k h =
      drop-put_mid used (end - used) memory new end (omega arith) (omega arith) (ap length e ∙ omega arith)
      ∙ ap (λ m. drop m memory) k
      ∙ sym (drop-drop (length text) used memory)
      ∙ ap (drop (length text)) row.zeros
      ∙ drop-replicate (length text) (n - used) 0
      ∙ ap (λ m. replicate m 0) (omega arith)

  -- After zeros were laid over the octets.
  pub all_zeros : (new : List ℕ) (k : ℕ) → new ≡ replicate k 0 → k ≡ used → put_mid 0 (used - 0) memory new ≡ replicate (n - 0) 0
  all_zeros new k e h =
      (λ j. e j ++ (Post-is 0 used memory zero-le ∙ row.zeros) j)
      ∙ replicate-append-replicate k (n - used) 0
      ∙ ap (λ m. replicate m 0) (omega arith)
