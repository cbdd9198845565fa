-- A package as a record holds it: its terms, and what came in its rounds.
use Rattle.std.specs.Prelude.{ℕ, zero, suc, ◌+◌, Bool, true, false, List, [], ◌∷◌, ℤ, pos, Some, None, Option, ◌==◌}
use Rattle.ranked.specs.Order.{arrive}
use Rattle.rules.specs.declared.bid.Bid.{Bid}
use Rattle.rules.specs.Amounts.{when}
use Rattle.rules.specs.Bids.{by_price}

-- what came in a round: its bids in rank order, and whether it is struck
pub record Bidding : Type 0 where
  pub bids : List Bid
  pub struck : Bool

-- so many parts were cut off, and came into a second round
pub record Residual : Type 0 where
  pub parts : ℕ
  pub second : Bidding

pub record Package : Type 0 where
  pub margin : ℕ
  pub reference : ℤ
  -- the set of excused members
  pub excused : ℕ
  pub first : Bidding
  pub residual : Option Residual

-- a round that has opened, with no bid yet
abbrev pub blank : Bidding
blank = record { bids = []; struck = false }

-- a package that has opened, with its first round
abbrev pub newly : (margin : ℕ) → (reference : ℤ) → (excused : ℕ) → Package
newly margin reference excused = record { margin = margin; reference = reference; excused = excused; first = blank; residual = None }

-- a default for reading a list of packages
abbrev pub no_package : Package
no_package = newly 0 (pos 0) 0

-- ---- the latest round

abbrev pub later_of : Bidding → Option Residual → Bidding
later_of first None = first
later_of first (Some r) = r.second

-- the round that opened last, open or struck
abbrev pub latest : Package → Bidding
latest p = later_of p.first p.residual

abbrev pub first_with : (Bidding → Bidding) → Bidding → Option Residual → Bidding
first_with f first None = f first
first_with f first (Some r) = first

abbrev pub residual_with : (Bidding → Bidding) → Option Residual → Option Residual
residual_with f None = None
residual_with f (Some r) = Some (record { parts = r.parts; second = f r.second })

-- the package with another latest round
abbrev pub with_latest : (Bidding → Bidding) → Package → Package
with_latest f p = record {
  margin = p.margin;
  reference = p.reference;
  excused = p.excused;
  first = first_with f p.first p.residual;
  residual = residual_with f p.residual;
}

-- ---- what calls make of a package

-- a round with one bid more: behind those level with it
abbrev pub bid_in : Bid → Bidding → Bidding
bid_in b r = record { bids = arrive by_price b r.bids; struck = r.struck }

abbrev pub struck_in : Bidding → Bidding
struck_in r = record { bids = r.bids; struck = true }

-- the bid joins the latest round
abbrev pub with_bid : Bid → Package → Package
with_bid b = with_latest (bid_in b)

-- the latest round is struck
abbrev pub with_strike : Package → Package
with_strike = with_latest struck_in

-- so many parts are cut off, and the second round opens
abbrev pub with_residual : (parts : ℕ) → Package → Package
with_residual parts p = record {
  margin = p.margin;
  reference = p.reference;
  excused = p.excused;
  first = p.first;
  residual = Some (record { parts = parts; second = blank });
}

-- ---- what causes look at

-- the sizes of a member's bids together
abbrev pub sizes_of : (member : ℕ) → List Bid → ℕ
sizes_of a [] = 0
sizes_of a (b ∷ bs) = when (b.member == a) b.size + sizes_of a bs

-- a list with another entry at one place, and all others as they were
abbrev pub changed : {A : Type 0} → (A → A) → List A → ℕ → List A
changed f [] k = []
changed f (x ∷ xs) zero = f x ∷ xs
changed f (x ∷ xs) (suc k) = x ∷ changed f xs k
