use Rattle.std.proofs.Common.{◌≡◌, ℕ, List, length, Some, ap, ◌∙◌, arith}
use Rattle.representations.specs.Cursors.{rest}
use Rattle.representations.proofs.cursor.Cursor.take.Goals as goal

pub overflow_add-self : goal.overflow_add-self
overflow_add-self g c =
    let is : c.split_at.result.1.now ≡ rest c.args.self.now = c.split_at.ensures.back ∙ ap rest c.self.view_is in
    let few = c.requires.bound (Some (c.in_ok-value.value, c.in_ok-value.used)) (c.split_at.result.1, c.in_ok-value.ensures, is) in
    omega (arith, few, ap (λ (xs : List ℕ). length xs) is, c.split_at.ensures.back_len, c.self.told.0)

pub invariant_of-self : goal.invariant_of-self
invariant_of-self g c =
    let is : c.split_at.result.1.now ≡ rest c.args.self.now = c.split_at.ensures.back ∙ ap rest c.self.view_is in
    let few = c.requires.bound (Some (c.in_ok-value.value, c.in_ok-value.used)) (c.split_at.result.1, c.in_ok-value.ensures, is) in
    omega (arith, few, ap (λ (xs : List ℕ). length xs) is, c.split_at.ensures.back_len)

pub returns-clause-bound : goal.returns-clause-bound
returns-clause-bound g c =
    let is : c.split_at.result.1.now ≡ rest c.args.self.now = c.split_at.ensures.back ∙ ap rest c.self.view_is in
    let few = c.requires.bound (Some (c.in_ok-value.value, c.in_ok-value.used)) (c.split_at.result.1, c.in_ok-value.ensures, is) in
    omega (arith, few, ap (λ (xs : List ℕ). length xs) is, c.split_at.ensures.back_len)
