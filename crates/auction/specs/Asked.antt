-- Of whom minimums can be asked, and what they then are.
use Rattle.std.specs.Prelude.{◌≡◌, ℕ, ◌<◌, ◌≤◌, false, List, length}
use Rattle.rules.specs.declared.member.Member.{Member}
use Rattle.rules.specs.Minimums.{contributed, all_excused, first_minimum}
use Rattle.auction.specs.Rows.{Low, Row}
use Rattle.auction.specs.Orderly.{Covering}

-- each contribution is within its limits
abbrev pub Contributing : List Member → Type 0
Contributing members = (a : ℕ) → a < length members → (1 ≤ contributed members a) × (contributed members a ≤ 25000000)

pub record Askable (members : List Member) (multiplier excused : ℕ) : Type 0 where
  pub few : length members ≤ 60
  pub contributing : Contributing members
  pub least : 1000 ≤ multiplier
  pub most : multiplier ≤ 4000
  pub serving : all_excused excused (length members) ≡ false

-- the first minimums: none passes the whole, and they reach it together
pub record Asked (members : List Member) (multiplier excused : ℕ) (row : List ℕ) : Type 0 where
  pub shown : Row (length members) (first_minimum members multiplier excused) row
  pub low : Low (length members) row
  pub covering : Covering (length members) row
