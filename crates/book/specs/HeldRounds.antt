-- What a round of a package stands for.
use Rattle.std.specs.Prelude.{ℕ, Bool, true, false, not, ◌&&◌, List, length, is_some, nat_lt}
use Rattle.ranked.specs.Order.{arrive}
use Rattle.ranked.specs.Table.{listed}
use Rattle.rules.specs.declared.bid.Bid.{Bid}
use Rattle.rules.specs.Bids.{by_price}
use Rattle.rules.specs.Minimums.{all_parts}
use Rattle.rules.specs.Rounds.{Round}
use Rattle.calls.specs.Packages.{Bidding}
use Rattle.calls.specs.Held.{Held}
use Rattle.book.specs.declared.round.BookRound.{BookRound}
use Rattle.book.specs.Terms.{round_with, terms_held}

abbrev pub round_held : BookRound → Held
round_held r = record {
  round = round_with (terms_held r.terms) (listed r.bids);
  offer = r.offer;
  struck = is_some r.division;
}

-- a round that offers the whole and is not struck
abbrev pub opened : Round → Held
opened r = record { round = r; offer = all_parts; struck = false }

-- the same round with other bids
abbrev pub with_bids : List Bid → Round → Round
with_bids bids r = record { members = r.members; minimum = r.minimum; bids = bids; reference = r.reference; margin = r.margin }

abbrev pub bidding_of : Held → Bidding
bidding_of h = record { bids = h.round.bids; struck = h.struck }

-- what came in a round leaves a place to a bid, if it is of one of the members
abbrev pub takes_bid : Bid → Bidding → (members : ℕ) → Bool
takes_bid b r members = not r.struck && (nat_lt (length r.bids) 96 && nat_lt b.member members)

-- a round takes a bid
abbrev pub takes : Bid → Held → Bool
takes b h = takes_bid b (bidding_of h) h.round.members

-- with one bid more: behind those level with it
abbrev pub joined : Bid → Held → Held
joined b h = record { round = with_bids (arrive by_price b h.round.bids) h.round; offer = h.offer; struck = h.struck }

-- struck, with this offer divided
abbrev pub divided_at : (offer : ℕ) → Held → Held
divided_at offer h = record { round = h.round; offer = offer; struck = true }
