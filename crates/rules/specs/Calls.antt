-- The calls on a record: for which causes each is refused, and what it makes of the record.
use Rattle.std.specs.Prelude.{◌≡◌, ℕ, Bool, cond, not, ◌||◌, List, [], ◌∷◌, length, is_some, Some, None, Ok, Err, Option, Result, ◌==◌, nat_le, nat_lt}
use Rattle.ranked.specs.Order.{arrive}
use Rattle.rules.specs.declared.member.Member.{Member}
use Rattle.rules.specs.declared.refusal.Refusal.{Refusal}
use Rattle.rules.specs.declared.refusal.Refusal.TheVariants.{OtherStage, OutsideLimits, NameByte, NameEnrolled, NoRoom, NobodyToServe}
use Rattle.rules.specs.declared.stage.Stage.TheVariants.{Auction}
use Rattle.rules.specs.Names.{is_plain}
use Rattle.rules.specs.Members.{by_name, place_of}
use Rattle.rules.specs.State.{State, fresh, with_multiplier, with_stage, with_members, is_roll}

pub data Call : Type 0 where
  multiplier : (thousandths : ℕ) → Call
  enrol : (member : Member) → Call
  close_roll : Call

-- ---- causes

abbrev pub outside : ℕ → ℕ → ℕ → Bool
outside low high x = nat_lt x low || nat_lt high x

-- the causes for which a call is refused, the uppermost first, each with whether it is there
abbrev pub causes : State → Call → List (Bool × Refusal)
causes s (multiplier x) =
    (not (is_roll s.stage), OtherStage)
    ∷ (outside 1000 4000 x, OutsideLimits)
    ∷ []
causes s (enrol m) =
    (not (is_roll s.stage), OtherStage)
    ∷ (outside 1 25000000 m.contribution, OutsideLimits)
    ∷ (not (is_plain m.name.bytes), NameByte)
    ∷ (is_some (place_of m.name s.members), NameEnrolled)
    ∷ (nat_le 60 (length s.members), NoRoom)
    ∷ []
causes s close_roll =
    (not (is_roll s.stage), OtherStage)
    ∷ ((length s.members == 0), NobodyToServe)
    ∷ []

abbrev pub uppermost : List (Bool × Refusal) → Option Refusal
uppermost [] = None
uppermost (p ∷ ps) = cond p.0 (Some p.1) (uppermost ps)

abbrev pub refusal : State → Call → Option Refusal
refusal s c = uppermost (causes s c)

-- ---- what a call makes of a record

abbrev pub accepted : State → Call → State
accepted s (multiplier x) = with_multiplier x s
accepted s (enrol m) = with_members (arrive by_name m s.members) s
accepted s close_roll = with_stage Auction s

-- the new where nothing is refused, else the old
abbrev pub unless : {A : Type 0} → Option Refusal → A → A → A
unless None new old = new
unless (Some r) new old = old

abbrev pub step : State → Call → State
step s c = unless (refusal s c) (accepted s c) s

abbrev pub answer : {A : Type 0} → Option Refusal → A → Result A Refusal
answer None x = Ok x
answer (Some r) x = Err r

-- ---- lists of calls, the newest first

abbrev pub after : List Call → State
after [] = fresh
after (c ∷ h) = step (after h) c

-- what is known of a call's arguments whatever the record does: a name has eight bytes
abbrev pub IsFair : State → Call → Type 0
IsFair s (multiplier x) = Unit {0}
IsFair s (enrol m) = length m.name.bytes ≡ 8
IsFair s close_roll = Unit {0}

abbrev pub Fair : List Call → Type 0
Fair [] = Unit {0}
Fair (c ∷ h) = IsFair (after h) c × Fair h

-- what a call did to a record, and what it answered: x where it was accepted, else the uppermost cause
pub record Did {A : Type 0} (s : State) (c : Call) (x : A) (t : State) (r : Result A Refusal) : Type 0 where
  pub fairly : IsFair s c
  pub becomes : t ≡ step s c
  pub answers : r ≡ answer (refusal s c) x

-- some list of calls, accepted and refused, made this of a new record
abbrev pub Came : State → Type 0
Came s = ∥ ((h : List Call) × (Fair h × (s ≡ after h))) ∥₁
