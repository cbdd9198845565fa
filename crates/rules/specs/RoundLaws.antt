-- The laws of minimums, and of how a round is divided.
use Rattle.std.specs.Prelude.{◌≡◌, ℕ, ◌+◌, ◌-◌, ◌<◌, ◌≤◌, true, false, List, length, ℤ, pos, ◌-ℤ◌, ◌≤ℤ◌, ◌<ℤ◌, ◌≢◌, unsigned_abs}
use Rattle.ranked.specs.Order.{InOrder}
use Rattle.shares.specs.Sums.{total}
use Rattle.shares.specs.Shares.{dealt, share}
use Rattle.rules.specs.declared.bid.Bid.{Bid}
use Rattle.rules.specs.declared.member.Member.{Member}
use Rattle.rules.specs.Amounts.{total_z, signed_as}
use Rattle.rules.specs.Bids.{by_price}
use Rattle.rules.specs.Minimums.{all_parts, contributed, is_excused, all_excused, first_minimum}
use Rattle.rules.specs.Books.{Book, Ranked, in_all, above, alongside, level, giving, Within, worth}
use Rattle.rules.specs.Rounds.{Round, Sound, first_round, bid_at, OfMembers, sizes, of_two, mark, market, shortfall, shortfalls, bid_filled, givings, shortfall_parts, allotment, round_price, transfer}
use Rattle.rules.specs.Residuals.{credit, credits, rise_base, rise, cut_allotment, second_minimum, second_round}

-- ---- minimums

-- the minimums of a first round reach the whole, if a member that is not excused contributes
abbrev pub MinimumsCover : Type 0
MinimumsCover =
    (members : List Member) (multiplier excused : ℕ) → 1000 ≤ multiplier →
    (a : ℕ) → a < length members → is_excused excused a ≡ false → 1 ≤ contributed members a →
    all_parts ≤ total (length members) (first_minimum members multiplier excused)

-- none of them passes it
abbrev pub MinimumsBounded : Type 0
MinimumsBounded =
    (members : List Member) (multiplier excused a : ℕ) → first_minimum members multiplier excused a ≤ all_parts

-- member a owes no bid: not in the round r, nor in the second that a residual opens after it
pub record OwesNothing (r : Round) (a : ℕ) : Type 0 where
  pub no_minimum : r.minimum a ≡ 0
  pub no_shortfall : shortfall r a ≡ 0
  pub second_minimum : (residual : ℕ) (bids : List Bid) → (second_round r residual bids).minimum a ≡ 0
  pub second_shortfall : (residual : ℕ) (bids : List Bid) → shortfall (second_round r residual bids) a ≡ 0

-- so it is with a minimum of 0
abbrev pub NoMinimumOwesNothing : Type 0
NoMinimumOwesNothing = (r : Round) (a : ℕ) → r.minimum a ≡ 0 → OwesNothing r a

-- and with an excused member
abbrev pub ExcusedOwesNothing : Type 0
ExcusedOwesNothing =
    (members : List Member) (multiplier excused margin : ℕ) (reference : ℤ) (bids : List Bid) (a : ℕ) →
    is_excused excused a ≡ true → OwesNothing (first_round members multiplier excused margin reference bids) a

-- ---- second minimums

-- somebody takes the credits: there is a base for the rises, and they hand out the credits whole
pub record HandedOn (r : Round) (offer : ℕ) : Type 0 where
  pub some : 0 < credits r offer → 0 < rise_base r offer
  -- also where there is no credit, if the offer is not the whole
  pub cut : offer < all_parts → 0 < rise_base r offer
  pub whole : total r.members (rise r.members r.minimum (allotment r offer)) ≡ credits r offer

-- so it is in every sound round
abbrev pub CreditsTaken : Type 0
CreditsTaken = (r : Round) → Sound r → (offer : ℕ) → offer ≤ all_parts → HandedOn r offer

-- the second minimums reach the whole again
abbrev pub SecondMinimumsCover : Type 0
SecondMinimumsCover =
    (r : Round) → Sound r → (residual : ℕ) →
    all_parts ≤ total r.members (second_minimum r.members r.minimum (cut_allotment r residual))

-- and none of them passes it
abbrev pub SecondMinimumsBounded : Type 0
SecondMinimumsBounded =
    (r : Round) (residual a : ℕ) → second_minimum r.members r.minimum (cut_allotment r residual) a ≤ all_parts

-- ---- what the laws of division ask holds of every round

-- a first round is sound, if its members contribute and are not all excused, and its bids are in order and of members
abbrev pub FirstSound : Type 0
FirstSound =
    (members : List Member) (multiplier excused margin : ℕ) (reference : ℤ) (bids : List Bid) →
    ((a : ℕ) → a < length members → 1 ≤ contributed members a) → all_excused excused (length members) ≡ false → 1000 ≤ multiplier →
    InOrder by_price bids → OfMembers (length members) bids → Sound (first_round members multiplier excused margin reference bids)

-- and so is the second that a residual opens after a sound one
abbrev pub SecondSound : Type 0
SecondSound =
    (r : Round) → Sound r → (residual : ℕ) (bids : List Bid) →
    InOrder by_price bids → OfMembers r.members bids → Sound (second_round r residual bids)

-- ---- the mark

-- with bids of two members or more that reach the whole, the mark is the price of the bid at which they reach it
pub record Marked (bids : List Bid) (reference : ℤ) : Type 0 where
  pub reached : of_two bids ≡ true → (i : ℕ) → i < length bids → sizes bids i < all_parts → all_parts ≤ sizes bids (i + 1) →
      mark bids reference ≡ (bid_at bids i).price
  -- else it is the reference price: where they are too few,
  pub short : sizes bids (length bids) < all_parts → mark bids reference ≡ reference
  -- or all of one member
  pub alone : of_two bids ≡ false → mark bids reference ≡ reference
  pub two : of_two bids ≡ true → (i : ℕ) × (i < length bids) × ((bid_at bids i).member ≢ (bid_at bids 0).member)
  pub one : of_two bids ≡ false → (i : ℕ) → i < length bids → (bid_at bids i).member ≡ (bid_at bids 0).member

-- so it is with all bids
abbrev pub MarkReached : Type 0
MarkReached = (bids : List Bid) (reference : ℤ) → Marked bids reference

-- ---- market bids

-- a bid is in the market by its price alone: with its size if mark less price is at most the margin, else with nothing
pub record InMarket (r : Round) (i : ℕ) : Type 0 where
  pub inside : (mark r.bids r.reference -ℤ (bid_at r.bids i).price) ≤ℤ pos r.margin →
      (market r).size i ≡ (bid_at r.bids i).size
  pub outside : pos r.margin <ℤ (mark r.bids r.reference -ℤ (bid_at r.bids i).price) →
      (market r).size i ≡ 0

-- so it is with every bid
abbrev pub MarketByPrice : Type 0
MarketByPrice = (r : Round) (i : ℕ) → InMarket r i

-- ---- givings

-- levels are served from the best on. One that fits in what those above it leave is given whole,
-- one to which nothing is left gets nothing, and the one between gets running shares of what is left
pub record ByLevels (b : Book) (n i : ℕ) : Type 0 where
  pub fits : above b (b.price i) + level b (b.price i) ≤ n → giving b n i ≡ b.size i
  pub gone : n ≤ above b (b.price i) → giving b n i ≡ 0
  pub partly : above b (b.price i) < n → n ≤ above b (b.price i) + level b (b.price i) →
      giving b n i ≡ share (n - above b (b.price i)) (level b (b.price i)) (alongside b (b.price i)) i

-- so it is in every book
abbrev pub LevelsInTurn : Type 0
LevelsInTurn = (b : Book) (n i : ℕ) → i < b.count → ByLevels b n i

-- the market bids cover what goes to bids; it is given out to the last part, and no bid gets more than its size
pub record GivenOut (r : Round) (offer : ℕ) : Type 0 where
  pub enough : bid_filled r offer ≤ in_all (market r)
  pub whole : total (length r.bids) (givings r offer) ≡ bid_filled r offer
  pub within : Within (market r) (givings r offer)

-- so it is in every sound round
abbrev pub MarketCovers : Type 0
MarketCovers = (r : Round) → Sound r → (offer : ℕ) → offer ≤ all_parts → GivenOut r offer

-- no giving of as many parts in all is worth more: of any book,
abbrev pub BookBest : Type 0
BookBest = (b : Book) → Ranked b → (n : ℕ) (g : ℕ → ℕ) → Within b g → total b.count g ≡ total b.count (giving b n) →
    worth b g ≤ℤ worth b (giving b n)

-- and so of the market bids of a round
abbrev pub GivingBest : Type 0
GivingBest =
    (r : Round) → Sound r → (offer : ℕ) → offer ≤ all_parts →
    (g : ℕ → ℕ) → Within (market r) g → total (length r.bids) g ≡ bid_filled r offer →
    worth (market r) g ≤ℤ worth (market r) (givings r offer)

-- one price divides the bids: market bids above it are given whole, none below it gets a part.
-- A bid with a part stands at it; where nothing goes to bids, it is the reference price
pub record SplitByPrice (r : Round) (offer : ℕ) : Type 0 where
  pub higher : (i : ℕ) → i < length r.bids → 0 < bid_filled r offer → round_price r offer <ℤ (bid_at r.bids i).price →
      givings r offer i ≡ (market r).size i
  pub lower : (i : ℕ) → i < length r.bids → 0 < bid_filled r offer → (bid_at r.bids i).price <ℤ round_price r offer →
      givings r offer i ≡ 0
  pub stands : 0 < bid_filled r offer →
      (i : ℕ) × (i < length r.bids) × (0 < givings r offer i) × (round_price r offer ≡ (bid_at r.bids i).price)
  pub idle : bid_filled r offer ≡ 0 → round_price r offer ≡ r.reference

-- so it is in every sound round
abbrev pub PriceDivides : Type 0
PriceDivides = (r : Round) → Sound r → (offer : ℕ) → offer ≤ all_parts → SplitByPrice r offer

-- ---- allotments

-- nothing is left over: the allotments add up to the offer
abbrev pub OfferAllotted : Type 0
OfferAllotted = (r : Round) → Sound r → (offer : ℕ) → offer ≤ all_parts → total r.members (allotment r offer) ≡ offer

-- a member that falls short: where the offer reaches all shortfalls, it gets its own, and it never gets more than its minimum
pub record FellShort (r : Round) (offer a : ℕ) : Type 0 where
  pub own : shortfalls r ≤ offer → shortfall_parts r offer a ≡ shortfall r a
  pub within : allotment r offer a ≤ r.minimum a
  -- so it has no credit
  pub no_credit : credit r.minimum (allotment r offer) a ≡ 0

-- so it is with every member that has a shortfall
abbrev pub NonBidders : Type 0
NonBidders = (r : Round) (offer a : ℕ) → a < r.members → 0 < shortfall r a → FellShort r offer a

-- ---- transfers

-- the transfers together come to what goes of the price's size to the offer, with the sign put back:
-- to the price itself if the whole is offered. Who has no parts pays nothing
pub record Transferred (r : Round) (offer : ℕ) : Type 0 where
  pub sum : total_z r.members (transfer r offer) ≡ signed_as (round_price r offer) (dealt (unsigned_abs (round_price r offer)) all_parts offer)
  pub full : offer ≡ all_parts → total_z r.members (transfer r offer) ≡ round_price r offer
  pub none : (a : ℕ) → allotment r offer a ≡ 0 → transfer r offer a ≡ pos 0

-- so it is in every sound round
abbrev pub TransfersAddUp : Type 0
TransfersAddUp = (r : Round) → Sound r → (offer : ℕ) → offer ≤ all_parts → Transferred r offer
