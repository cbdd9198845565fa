-- What a record holds.
use Rattle.std.specs.Prelude.{ℕ, Bool, true, false, List, []}
use Rattle.rules.specs.declared.member.Member.{Member}
use Rattle.rules.specs.declared.stage.Stage.{Stage}
use Rattle.rules.specs.declared.stage.Stage.TheVariants.{Roll, Auction, Settled}

pub record State : Type 0 where
  -- in thousandths
  pub multiplier : ℕ
  pub stage : Stage
  -- in byte order of name
  pub members : List Member

abbrev pub fresh : State
fresh = record { multiplier = 1250; stage = Roll; members = [] }

abbrev pub with_multiplier : ℕ → State → State
with_multiplier x s = record { multiplier = x; stage = s.stage; members = s.members }

abbrev pub with_stage : Stage → State → State
with_stage x s = record { multiplier = s.multiplier; stage = x; members = s.members }

abbrev pub with_members : List Member → State → State
with_members x s = record { multiplier = s.multiplier; stage = s.stage; members = x }

abbrev pub is_roll : Stage → Bool
is_roll Roll = true
is_roll Auction = false
is_roll Settled = false
