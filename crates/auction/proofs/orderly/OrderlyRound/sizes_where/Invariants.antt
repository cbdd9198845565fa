use Rattle.std.proofs.Common.{◌≡◌, ◌*◌, ◌≤◌, Bool}
use Rattle.std.specs.Fn.{FnReturnsAt}
use Rattle.shares.specs.Sums.{total}
use Rattle.rules.specs.declared.bid.Bid.{Bid}
use Rattle.rules.specs.Amounts.{when}
use Rattle.rules.specs.Rounds.{bid_at, market_size}
use Rattle.auction.proofs.orderly.OrderlyRound.sizes_where.Given as goal

abbrev pub invariant-loop-bid : goal.invariant-loop-bid
invariant-loop-bid g l =
    (l.sum ≤ 4294967295 * l.bid-index)
    × ((p : Bid → Bool) → ((b : Bid) (t : Bool) → FnReturnsAt g.F.Fn l.test b t → t ≡ p b) →
    l.sum ≡ total l.bid-index (λ i. when (p (bid_at l.bids i)) (market_size l.bids l.self.mark l.self.round.margin i)))
