-- A number read digit by digit.
use Rattle.std.proofs.Common.{◌≡◌, ℕ, ◌+◌, ◌*◌, ◌^◌, ◌<◌, ◌≤◌, List, length, get_or, drop, Some, None, ap, ◌∙◌, pow-suc, add-one, arith, lit<}
use native.Mathlib.Nat.{pow-le-pow_right}
use Rattle.std.proofs.lemmas.List.{drop_more, drop_all}
use Rattle.site.specs.Texts.{read_on, digit_of}

pub read_digit : (value : ℕ) (text : List ℕ) (i d : ℕ) → i < length text → Some d ≡ digit_of (get_or text i 0)
    → read_on value (drop i text) ≡ read_on (value * 10 + d) (drop (i + 1) text)
unfolding read_on
read_digit value text i d within is = ap (read_on value) (drop_more text i 0 within) ∙ rw (← is, read_on)

pub read_other : (value : ℕ) (text : List ℕ) (i : ℕ) → i < length text → None ≡ digit_of (get_or text i 0) → read_on value (drop i text) ≡ None
unfolding read_on
read_other value text i within is = ap (read_on value) (drop_more text i 0 within) ∙ rw (← is, read_on)

pub read_end : (value : ℕ) (text : List ℕ) (i : ℕ) → length text ≤ i → read_on value (drop i text) ≡ Some value
unfolding read_on
read_end value text i past = ap (read_on value) (drop_all i text past)

-- A value of fewer than nine digits has room for one more.
pub room : (value i : ℕ) → value < 10 ^ i → i < 9 → value < 100000000
room value i low few =
    let e : 10 ^ i ≤ 10 ^ 8 = let at_most : i ≤ 8 = omega arith in pow-le-pow_right (lit< tt) at_most in
    omega arith

pub more : (value i d : ℕ) → value < 10 ^ i → d ≤ 9 → value * 10 + d < 10 ^ (i + 1)
more value i d low digit = rw (add-one, pow-suc) (omega arith)
