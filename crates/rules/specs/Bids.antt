-- How bids rank.
use Rattle.std.specs.declared.cmp.Ordering.{Ordering}
use Rattle.rules.specs.declared.bid.Bid.{Bid}
use Rattle.std.specs.Ordering.{int_cmp}

-- the higher price stands first, and equal prices are level
abbrev pub by_price : Bid → Bid → Ordering
by_price a b = int_cmp b.price a.price
