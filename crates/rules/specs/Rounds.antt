-- One round: its mark, market bids and shortfalls, and how an offer is divided.
use Rattle.std.specs.Prelude.{ℕ, zero, suc, ◌+◌, ◌-◌, ◌<◌, ◌≤◌, min, Bool, false, cond, not, ◌||◌, List, [], ◌∷◌, length, ℤ, pos, ◌-ℤ◌, ◌==◌, int_le, nat_le, nat_lt, slice_index_or, unsigned_abs}
use Rattle.shares.specs.Sums.{total}
use Rattle.shares.specs.Shares.{share}
use Rattle.rules.specs.declared.bid.Bid.{Bid}
use Rattle.rules.specs.declared.member.Member.{Member}
use Rattle.rules.specs.Amounts.{when, signed_as}
use Rattle.rules.specs.Minimums.{all_parts, first_minimum}
use Rattle.rules.specs.Books.{Book, Ranked, giving}

-- members are numbered from 0, and so are the bids, in rank order
pub record Round : Type 0 where
  -- how many members there are
  pub members : ℕ
  -- of each member
  pub minimum : ℕ → ℕ
  pub bids : List Bid
  -- the reference price
  pub reference : ℤ
  pub margin : ℕ

-- the first round of a package
abbrev pub first_round : List Member → (multiplier excused margin : ℕ) → (reference : ℤ) → List Bid → Round
first_round members multiplier excused margin reference bids =
    record { members = length members; minimum = first_minimum members multiplier excused; bids = bids; reference = reference; margin = margin }

-- a default for reading a list of bids
abbrev pub no_bid : Bid
no_bid = record { member = 0; size = 0; price = pos 0 }

-- the bid at a place
abbrev pub bid_at : List Bid → ℕ → Bid
bid_at bids i = slice_index_or bids i no_bid

-- each bid is of one of the first n members
abbrev pub OfMembers : (n : ℕ) → List Bid → Type 0
OfMembers n bids = (i : ℕ) → i < length bids → (bid_at bids i).member < n

-- the sizes of the first n bids together
abbrev pub sizes : List Bid → (n : ℕ) → ℕ
sizes bids n = total n (λ i. (bid_at bids i).size)

-- ---- mark

-- some bid is of another member than a
abbrev pub of_another : (a : ℕ) → List Bid → Bool
of_another a [] = false
of_another a (x ∷ xs) = not (x.member == a) || of_another a xs

-- the bids come from two members or more
abbrev pub of_two : List Bid → Bool
of_two [] = false
of_two (x ∷ xs) = of_another x.member xs

-- the price of the bid at which the sizes first reach n; p if they do not
abbrev pub reaching : (n : ℕ) → List Bid → (p : ℤ) → ℤ
reaching n [] p = p
reaching n (x ∷ xs) p = cond (nat_le n x.size) x.price (reaching (n - x.size) xs p)

-- with bids of two members or more, the price at which their sizes reach the whole; else the reference price
unfoldable pub mark : List Bid → (reference : ℤ) → ℤ
mark bids reference = cond (of_two bids) (reaching all_parts bids reference) reference

-- ---- market bids

-- a price is in the market if the mark less the price is at most the margin
abbrev pub is_market : (mark : ℤ) → (margin : ℕ) → (price : ℤ) → Bool
is_market mark margin price = int_le (mark -ℤ price) (pos margin)

-- the size of bid i if it is a market bid
unfoldable pub market_size : List Bid → (mark : ℤ) → (margin : ℕ) → ℕ → ℕ
market_size bids mark margin i = when (is_market mark margin (bid_at bids i).price) (bid_at bids i).size

-- the market bids at a mark and a margin
abbrev pub market_at : List Bid → (mark : ℤ) → (margin : ℕ) → Book
market_at bids mark margin = record { count = length bids; price = λ i. (bid_at bids i).price; size = market_size bids mark margin }

-- the market bids of a round
abbrev pub market : Round → Book
market r = market_at r.bids (mark r.bids r.reference) r.margin

-- ---- shortfalls

-- of numbers f that stand at bids, those at the bids of member a together
abbrev pub of_member : List Bid → (f : ℕ → ℕ) → (a : ℕ) → ℕ
of_member bids f a = total (length bids) (λ i. when ((bid_at bids i).member == a) (f i))

-- what the market bids of member a lack of its minimum
unfoldable pub shortfall : Round → (a : ℕ) → ℕ
shortfall r a = r.minimum a - of_member r.bids (market r).size a

-- all shortfalls together
abbrev pub shortfalls : Round → ℕ
shortfalls r = total r.members (shortfall r)

-- ---- an offer divided

-- the parts that go to bids
abbrev pub bid_filled : Round → (offer : ℕ) → ℕ
bid_filled r offer = offer - shortfalls r

-- the parts given to each bid
abbrev pub givings : Round → (offer : ℕ) → ℕ → ℕ
givings r offer = giving (market r) (bid_filled r offer)

-- the parts given to the bids of member a
abbrev pub bid_parts : Round → (offer a : ℕ) → ℕ
bid_parts r offer = of_member r.bids (givings r offer)

-- the parts of member a for its shortfall: a running share, on the sum of the shortfalls
abbrev pub shortfall_parts : Round → (offer a : ℕ) → ℕ
shortfall_parts r offer = share (min offer (shortfalls r)) (shortfalls r) (shortfall r)

-- all parts of member a
unfoldable pub allotment : Round → (offer a : ℕ) → ℕ
allotment r offer a = bid_parts r offer a + shortfall_parts r offer a

-- the price of the last of the first n bids that is given a part; p if none is
abbrev pub last_given : (g : ℕ → ℕ) → (price : ℕ → ℤ) → (p : ℤ) → (n : ℕ) → ℤ
last_given g price p zero = p
last_given g price p (suc n) = cond (nat_lt 0 (g n)) (price n) (last_given g price p n)

-- the price of the last level that took a part; the reference price if none did
unfoldable pub round_price : Round → (offer : ℕ) → ℤ
round_price r offer = last_given (givings r offer) (market r).price r.reference (length r.bids)

-- what member a pays, or is paid if it is negative: a running share of the price's size, on all parts over the allotments
abbrev pub transfer : Round → (offer a : ℕ) → ℤ
transfer r offer a = signed_as (round_price r offer) (share (unsigned_abs (round_price r offer)) all_parts (allotment r offer) a)

-- ---- what the laws of division ask of a round

-- bids in order and of members, and minimums that reach the whole
pub record Sound (r : Round) : Type 0 where
  pub ranked : Ranked (market r)
  pub known : OfMembers r.members r.bids
  pub covered : all_parts ≤ total r.members r.minimum
