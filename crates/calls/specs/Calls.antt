-- The calls on a record: for which causes each is refused, and what it makes of the record.
use Rattle.std.specs.Prelude.{◌≡◌, ℕ, ◌+◌, ◌^◌, Bool, cond, not, ◌||◌, List, [], ◌∷◌, ◌++◌, length, ℤ, pos, negsuc, is_some, Some, None, Ok, Err, Option, Result, MatchOption, ◌==◌, int_lt, nat_le, nat_lt}
use Rattle.ranked.specs.Order.{arrive}
use Rattle.rules.specs.declared.bid.Bid.{Bid}
use Rattle.rules.specs.declared.member.Member.{Member}
use Rattle.rules.specs.declared.refusal.Refusal.{Refusal}
use Rattle.rules.specs.declared.refusal.Refusal.TheVariants.{OtherStage, NoPackage, NoMember, OutsideLimits, NameByte, NameEnrolled, NoRoom, NobodyToServe, SizesPass, NoOpenRound, NotReadyToSettle}
use Rattle.rules.specs.declared.stage.Stage.TheVariants.{Auction}
use Rattle.rules.specs.Minimums.{all_excused}
use Rattle.rules.specs.Names.{is_plain}
use Rattle.rules.specs.Members.{by_name, place_of}
use Rattle.tiers.specs.Piles.{Bears}
use Rattle.calls.specs.Packages.{latest, newly, with_bid, with_strike, with_residual, sizes_of, changed}
use Rattle.calls.specs.State.{State, fresh, with_multiplier, with_stage, with_members, with_packages, package_at, is_roll, is_auction}
use Rattle.calls.specs.Held.{any_open}
use Rattle.calls.specs.Settlements.{Settlement, amount_pasts, loss, unborne_of, settled_with}
use Rattle.calls.specs.Settlements.Settlement.{over, own}

pub data Call : Type 0 where
  multiplier : (thousandths : ℕ) → Call
  enrol : (member : Member) → Call
  close_roll : Call
  new_package : (margin : ℕ) (reference : ℤ) (excused : ℕ) → Call
  -- k is the number of a package
  bid : (k : ℕ) (b : Bid) → Call
  strike : (k : ℕ) → Call
  residual : (k parts : ℕ) → Call
  settle : (x : Settlement) → Call

-- ---- causes

abbrev pub outside : ℕ → ℕ → ℕ → Bool
outside low high x = nat_lt x low || nat_lt high x

-- a price lies from -10^10 to 10^10
abbrev pub outside_price : ℤ → Bool
outside_price z = int_lt z (negsuc 9999999999) || int_lt (pos 10000000000) z

-- a set has a bit of which none of the first n members has the number
abbrev pub is_stray : (set n : ℕ) → Bool
is_stray set n = nat_le (2 ^ n) set

-- the causes of a settlement, where `past` says whether one of its amounts is past its limit
abbrev pub settle_causes : State → (past : Bool) → List (Bool × Refusal)
settle_causes s past =
    (not (is_auction s.stage), OtherStage)
    ∷ (past, OutsideLimits)
    ∷ (length s.packages == 0 || any_open s.packages, NotReadyToSettle)
    ∷ []

-- the causes for which a call is refused, the uppermost first, each with whether it is there
abbrev pub causes : State → Call → List (Bool × Refusal)
causes s (multiplier x) =
    (not (is_roll s.stage), OtherStage)
    ∷ (outside 1000 4000 x, OutsideLimits)
    ∷ []
causes s (enrol m) =
    (not (is_roll s.stage), OtherStage)
    ∷ (outside 1 25000000 m.contribution, OutsideLimits)
    ∷ (not (is_plain m.name.bytes), NameByte)
    ∷ (is_some (place_of m.name s.members), NameEnrolled)
    ∷ (nat_le 60 (length s.members), NoRoom)
    ∷ []
causes s close_roll =
    (not (is_roll s.stage), OtherStage)
    ∷ ((length s.members == 0), NobodyToServe)
    ∷ []
causes s (new_package margin reference excused) =
    (not (is_auction s.stage), OtherStage)
    ∷ (is_stray excused (length s.members), NoMember)
    ∷ (outside 1 1000000000 margin || outside_price reference, OutsideLimits)
    ∷ (nat_le 8 (length s.packages), NoRoom)
    ∷ (all_excused excused (length s.members), NobodyToServe)
    ∷ []
causes s (bid k b) =
    (not (is_auction s.stage), OtherStage)
    ∷ (nat_le (length s.packages) k, NoPackage)
    ∷ (nat_le (length s.members) b.member, NoMember)
    ∷ (outside 1 1000000 b.size || outside_price b.price, OutsideLimits)
    ∷ (nat_le 96 (length (latest (package_at s k)).bids), NoRoom)
    ∷ (nat_lt 1000000 (sizes_of b.member (latest (package_at s k)).bids + b.size), SizesPass)
    ∷ ((latest (package_at s k)).struck, NoOpenRound)
    ∷ []
causes s (strike k) =
    (not (is_auction s.stage), OtherStage)
    ∷ (nat_le (length s.packages) k, NoPackage)
    ∷ ((latest (package_at s k)).struck, NoOpenRound)
    ∷ []
causes s (residual k parts) =
    (not (is_auction s.stage), OtherStage)
    ∷ (nat_le (length s.packages) k, NoPackage)
    ∷ (outside 1 999999 parts, OutsideLimits)
    ∷ (not (package_at s k).first.struck || is_some (package_at s k).residual, NoOpenRound)
    ∷ []
causes s (settle x) = settle_causes s (amount_pasts x)

abbrev pub uppermost : List (Bool × Refusal) → Option Refusal
uppermost [] = None
uppermost (p ∷ ps) = cond p.0 (Some p.1) (uppermost ps)

abbrev pub refusal : State → Call → Option Refusal
refusal s c = uppermost (causes s c)

-- ---- what a call makes of a record

abbrev pub accepted : State → Call → State
accepted s (multiplier x) = with_multiplier x s
accepted s (enrol m) = with_members (arrive by_name m s.members) s
accepted s close_roll = with_stage Auction s
accepted s (new_package margin reference excused) = with_packages (s.packages ++ newly margin reference excused ∷ []) s
accepted s (bid k b) = with_packages (changed (with_bid b) s.packages k) s
accepted s (strike k) = with_packages (changed with_strike s.packages k) s
accepted s (residual k parts) = with_packages (changed (with_residual parts) s.packages k) s
accepted s (settle x) = settled_with x s

-- the new where nothing is refused, else the old
abbrev pub unless : {A : Type 0} → Option Refusal → A → A → A
unless None new old = new
unless (Some r) new old = old

abbrev pub step : State → Call → State
step s c = unless (refusal s c) (accepted s c) s

abbrev pub answer : {A : Type 0} → Option Refusal → A → Result A Refusal
answer None x = Ok x
answer (Some r) x = Err r

-- ---- lists of calls, the newest first

abbrev pub after : List Call → State
after [] = fresh
after (c ∷ h) = step (after h) c

-- what is known of a call's arguments whatever the record does: a name has eight bytes, and a pile that is given goes as
-- a pile may. It bears the loss where the settlement is accepted, and stays as it was where it is refused
abbrev pub IsFair : State → Call → Type 0
IsFair s (multiplier x) = Unit {0}
IsFair s (enrol m) = length m.name.bytes ≡ 8
IsFair s close_roll = Unit {0}
IsFair s (new_package margin reference excused) = Unit {0}
IsFair s (bid k b) = Unit {0}
IsFair s (strike k) = Unit {0}
IsFair s (residual k parts) = Unit {0}
IsFair s (settle (own hedging cash pledges share)) = Unit {0}
IsFair s (settle (over hedging p q)) =
    MatchOption (refusal s (settle (over hedging p q))) (Bears p (loss s (over hedging p q)) q (unborne_of s (over hedging p q))) (λ _. q ≡ p)

abbrev pub Fair : List Call → Type 0
Fair [] = Unit {0}
Fair (c ∷ h) = IsFair (after h) c × Fair h

-- what a call did to a record, and what it answered: x where it was accepted, else the uppermost cause
pub record Did {A : Type 0} (s : State) (c : Call) (x : A) (t : State) (r : Result A Refusal) : Type 0 where
  pub fairly : IsFair s c
  pub becomes : t ≡ step s c
  pub answers : r ≡ answer (refusal s c) x

-- some list of calls, accepted and refused, made this of a new record
abbrev pub Came : State → Type 0
Came s = ∥ ((h : List Call) × (Fair h × (s ≡ after h))) ∥₁
