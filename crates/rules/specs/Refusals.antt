-- The closed table of causes: each with its number and the values that come with it.
use Rattle.std.specs.Prelude.{ℕ, List, [], ◌∷◌}
use Rattle.rules.specs.declared.refusal.Refusal.{Refusal}
use Rattle.rules.specs.declared.refusal.Refusal.TheVariants.{OtherStage, NoPackage, NoMember, OutsideLimits, NameByte, NameEnrolled, NoRoom, NobodyToServe, SizesPass, NoOpenRound, NotReadyToSettle, ShortMemory}
use Rattle.rules.specs.declared.refusal.Stop.{Stop}
use Rattle.rules.specs.declared.refusal.Stop.TheVariants.{CutShort, UnknownTag, WrongLength}
use Rattle.rules.specs.declared.refusal.Fault.{Fault}

-- whatever is given as the cause of a refusal
pub data Cause : Type 0 where
  refused : Refusal → Cause
  stopped : Fault → Cause

-- number and values of a cause
pub record Told : Type 0 where
  pub number : ℕ
  pub values : List ℕ

abbrev pub alone : ℕ → Told
alone n = record { number = n; values = [] }

abbrev pub stop_at : Stop → ℕ → Told
stop_at CutShort place = record { number = 12; values = place ∷ [] }
stop_at UnknownTag place = record { number = 13; values = place ∷ [] }
stop_at WrongLength place = record { number = 14; values = place ∷ [] }

abbrev pub told : Cause → Told
-- the call belongs to another stage
told (refused OtherStage) = alone 1
told (refused NoPackage) = alone 2
-- no such member, or a set bit without one
told (refused NoMember) = alone 3
-- a number outside its limits
told (refused OutsideLimits) = alone 4
-- the name has another byte than a capital letter or a digit
told (refused NameByte) = alone 5
told (refused NameEnrolled) = alone 6
-- no room for the one to be added
told (refused NoRoom) = alone 7
-- the roll is empty at closing, or all members are excused
told (refused NobodyToServe) = alone 8
-- the member's sizes in the latest round would pass the whole
told (refused SizesPass) = alone 9
-- no open round for a bid or a strike; a residual before the first strike or a second time
told (refused NoOpenRound) = alone 10
-- settling with a round open or without a package
told (refused NotReadyToSettle) = alone 11
-- a field of a call file, with the place of its tag: cut short, of an unknown tag, of a wrong length for its tag
told (stopped fault) = stop_at fault.stop fault.place
-- memory for a line is under 32 bytes
told (refused ShortMemory) = alone 15

abbrev pub number : Cause → ℕ
number c = (told c).number

abbrev pub values : Cause → List ℕ
values c = (told c).values
