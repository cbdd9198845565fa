-- What a division shows of a round, and what it keeps.
use Rattle.std.specs.Prelude.{◌≡◌, ℕ, length, ◌≤ℤ◌, unsigned_abs}
use Rattle.shares.specs.Sums.{at, total}
use Rattle.shares.specs.Shares.{dealt}
use Rattle.rules.specs.Amounts.{signed_as, total_z}
use Rattle.rules.specs.Minimums.{all_parts}
use Rattle.rules.specs.Books.{Within, worth}
use Rattle.rules.specs.Rounds.{Round, market, shortfall, bid_filled, givings, shortfall_parts, allotment, round_price, transfer}
use Rattle.auction.specs.declared.division.Division.{Division}
use Rattle.auction.specs.Rows.{Row, RowZ, at_z}

-- each row is that of the round at this offer
pub record Divided (r : Round) (offer : ℕ) (d : Division) : Type 0 where
  pub given : Row (length r.bids) (givings r offer) d.givings
  pub priced : d.price ≡ round_price r offer
  pub short : Row r.members (shortfall r) d.shortfalls
  pub covered : Row r.members (shortfall_parts r offer) d.shortfall_parts
  pub allotted : Row r.members (allotment r offer) d.allotments
  pub paid : RowZ r.members (transfer r offer) d.transfers

-- the laws of a division, on its own numbers
pub record Balanced (r : Round) (offer : ℕ) (d : Division) : Type 0 where
  -- nothing is left over
  pub whole : total r.members (at d.allotments) ≡ offer
  -- what goes to bids is given out to the last part, and no bid gets more than its market size
  pub filled : total (length r.bids) (at d.givings) ≡ bid_filled r offer
  pub within : Within (market r) (at d.givings)
  -- no other giving of as many parts is worth more
  pub best : (g : ℕ → ℕ) → Within (market r) g → total (length r.bids) g ≡ total (length r.bids) (at d.givings) →
      worth (market r) g ≤ℤ worth (market r) (at d.givings)
  -- the transfers come to what goes of the price's size to the offer, with its sign; to the price if the whole is offered
  pub sum : total_z r.members (at_z d.transfers) ≡ signed_as d.price (dealt (unsigned_abs d.price) all_parts offer)
  pub full : offer ≡ all_parts → total_z r.members (at_z d.transfers) ≡ d.price
