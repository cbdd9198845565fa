-- What the code's rounds are to the rules.
use Rattle.rules.specs.Books.{Book}
use Rattle.rules.specs.Rounds.{Round, market_at}
use Rattle.auction.specs.declared.round.Round.{Round as Data}
use Rattle.auction.specs.declared.orderly.OrderlyRound.{OrderlyRound}
use Rattle.auction.specs.Orderly.{Orderly, round_of}

-- the round of the rules that data stand for
abbrev pub ruled : Data → Round
ruled d = round_of d.bids.now d.minimums d.members d.reference d.margin

-- they are orderly
abbrev pub IsOrderly : Data → Type 0
IsOrderly d = Orderly d.bids.now d.minimums d.members

-- the same of a round that is known to be orderly
abbrev pub ruled_orderly : OrderlyRound → Round
ruled_orderly r = ruled r.round

-- its market bids, by the mark that was found
abbrev pub offered : OrderlyRound → Book
offered r = market_at r.round.bids.now r.mark r.round.margin
