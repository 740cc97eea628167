-- Where a cursor is after what was read: where nothing could be read it stays, and what takes an octet moves it on.
use Rattle.std.proofs.Common.{◌≡◌, ℕ, ◌<◌, ◌≤◌, Some, None, IfSome, refl, ap, arith}
use Rattle.primitives.specs.Reads.{Reading, value_of}
use Rattle.representations.specs.Cursors.{Reached, past}

pub stays : {X : Type 0} (c : Reached) (o : Reading X) → None ≡ value_of o → c ≡ past c o
stays c None e = refl
stays c (Some p) e = cc

pub goes_on : {X : Type 0} (c d : Reached) (o : Reading X) (x : X) → d ≡ past c o → Some x ≡ value_of o → IfSome o (λ p. 1 ≤ p.1) → c.at < d.at
goes_on c d None x e f h = cc
goes_on c d (Some p) x e f h = omega (arith, ap (λ (r : Reached). r.at) e, h)
