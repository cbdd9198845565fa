use Rattle.std.proofs.Common.{◌≡◌, drop}
use Rattle.rules.specs.Rounds.{reaching}
use Rattle.auction.proofs.marks.reached.Given as goal

abbrev pub invariant-loop-bid : goal.invariant-loop-bid
invariant-loop-bid l = reaching l.left (drop l.bid-index l.bids) l.other ≡ reaching l.parts l.bids l.other
