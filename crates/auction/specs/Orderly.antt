-- The round that data stand for, and what they keep.
use Rattle.std.specs.Prelude.{ℕ, ◌<◌, ◌≤◌, List, length, ℤ, ◌≤ℤ◌}
use Rattle.shares.specs.Sums.{total, at}
use Rattle.rules.specs.declared.bid.Bid.{Bid}
use Rattle.rules.specs.Minimums.{all_parts}
use Rattle.rules.specs.Rounds.{Round, mark, bid_at, OfMembers}
use Rattle.auction.specs.Rows.{Low}

abbrev pub round_of : List Bid → (minimums : List ℕ) → (members : ℕ) → (reference : ℤ) → (margin : ℕ) → Round
round_of bids minimums members reference margin =
    record { members = members; minimum = at minimums; bids = bids; reference = reference; margin = margin }

-- the mark of a round with these bids
abbrev pub mark_of : List Bid → (reference : ℤ) → ℤ
mark_of bids reference = mark bids reference

-- no bid has a higher price than one in front of it
abbrev pub Falling : List Bid → Type 0
Falling bids = (i j : ℕ) → i ≤ j → j < length bids → (bid_at bids j).price ≤ℤ (bid_at bids i).price

-- the minimums reach the whole
abbrev pub Covering : (members : ℕ) → (minimums : List ℕ) → Type 0
Covering members minimums = all_parts ≤ total members (at minimums)

-- what a round has to keep to be divided: at most 96 bids, at most 64 members, no minimum above the whole,
-- and what the laws of division ask
pub record Orderly (bids : List Bid) (minimums : List ℕ) (members : ℕ) : Type 0 where
  pub few : length bids ≤ 96
  pub seats : members ≤ 64
  pub low : Low members minimums
  pub ranked : Falling bids
  pub known : OfMembers members bids
  pub covered : Covering members minimums
