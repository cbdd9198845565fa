-- The minimums that a residual makes for the second round.
use Rattle.std.specs.Prelude.{◌≡◌, ℕ, ◌<◌, List}
use Rattle.rules.specs.Rounds.{Round}
use Rattle.rules.specs.Residuals.{cut_allotment, second_minimum}
use Rattle.shares.specs.Sums.{at}
use Rattle.auction.specs.Rows.{Low, Row}
use Rattle.auction.specs.Orderly.{Covering}

-- after the round r: none passes the whole, they reach it together, and who had the minimum 0 keeps it
pub record AskedAgain (r : Round) (residual : ℕ) (row : List ℕ) : Type 0 where
  pub shown : Row r.members (second_minimum r.members r.minimum (cut_allotment r residual)) row
  pub low : Low r.members row
  pub covering : Covering r.members row
  pub none : (a : ℕ) → a < r.members → r.minimum a ≡ 0 → at row a ≡ 0
