-- What an offer may cost.
use Rattle.std.proofs.Common.{◌<◌, ◌≤◌, rules}
use Rattle.scheduler.specs.declared.offer.Offer.{Offer}
use Rattle.scheduler.specs.Offers.{charge_of, largest}

pub charge_most : (o : Offer) → charge_of o ≤ largest
charge_most o = search (rules, o.small, o.ranked)

pub charge_some : (o : Offer) → 0 < o.octets → 0 < charge_of o
charge_some o h = search (rules, o.small, o.ranked)
