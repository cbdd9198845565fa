-- What a record holds.
use Rattle.std.specs.Prelude.{ℕ, Bool, true, false, List, [], None, Option, slice_index_or}
use Rattle.rules.specs.declared.member.Member.{Member}
use Rattle.rules.specs.declared.stage.Stage.{Stage}
use Rattle.rules.specs.declared.stage.Stage.TheVariants.{Roll, Auction, Settled}
use Rattle.calls.specs.declared.outcome.Outcome.{Outcome}
use Rattle.calls.specs.Packages.{Package, no_package}

pub record State : Type 0 where
  -- in thousandths
  pub multiplier : ℕ
  pub stage : Stage
  -- in byte order of name
  pub members : List Member
  -- in the order in which they came
  pub packages : List Package
  -- what a settlement answered, once there was one
  pub outcome : Option Outcome
  -- what a settlement over our own pile charged each account
  pub charges : Option (ℕ → ℕ)

abbrev pub fresh : State
fresh = record { multiplier = 1250; stage = Roll; members = []; packages = []; outcome = None; charges = None }

abbrev pub with_multiplier : ℕ → State → State
with_multiplier x s =
    record { multiplier = x; stage = s.stage; members = s.members; packages = s.packages; outcome = s.outcome; charges = s.charges }

abbrev pub with_stage : Stage → State → State
with_stage x s =
    record { multiplier = s.multiplier; stage = x; members = s.members; packages = s.packages; outcome = s.outcome; charges = s.charges }

abbrev pub with_members : List Member → State → State
with_members x s =
    record { multiplier = s.multiplier; stage = s.stage; members = x; packages = s.packages; outcome = s.outcome; charges = s.charges }

abbrev pub with_packages : List Package → State → State
with_packages x s =
    record { multiplier = s.multiplier; stage = s.stage; members = s.members; packages = x; outcome = s.outcome; charges = s.charges }

-- the package with a number
abbrev pub package_at : State → ℕ → Package
package_at s k = slice_index_or s.packages k no_package

abbrev pub is_roll : Stage → Bool
is_roll Roll = true
is_roll Auction = false
is_roll Settled = false

abbrev pub is_auction : Stage → Bool
is_auction Roll = false
is_auction Auction = true
is_auction Settled = false

abbrev pub is_settled : Stage → Bool
is_settled Roll = false
is_settled Auction = false
is_settled Settled = true
