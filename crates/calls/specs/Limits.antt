-- The limits that a record keeps.
use Rattle.std.specs.Prelude.{◌≡◌, ℕ, ◌^◌, ◌<◌, ◌≤◌, true, false, List, length, Some, None, Option, slice_index_or, unsigned_abs}
use Rattle.std.specs.Ordering.{is_lt}
use Rattle.std.specs.List.{AllByRecursion}
use Rattle.ranked.specs.Order.{InOrder}
use Rattle.rules.specs.declared.bid.Bid.{Bid}
use Rattle.rules.specs.declared.member.Member.{Member}
use Rattle.rules.specs.Bids.{by_price}
use Rattle.rules.specs.Minimums.{all_excused}
use Rattle.rules.specs.Names.{is_plain}
use Rattle.rules.specs.Members.{by_name}
use Rattle.calls.specs.declared.outcome.Outcome.{Outcome}
use Rattle.calls.specs.Packages.{Bidding, Residual, Package, sizes_of}
use Rattle.calls.specs.State.{State, is_roll}

-- of each member of a list
abbrev pub EachMember : (Member → Type 0) → List Member → Type 0
EachMember P ms = (k : ℕ) (d : Member) → k < length ms → P (slice_index_or ms k d)

-- a bid of one of n members
pub record KeptBid (n : ℕ) (b : Bid) : Type 0 where
  pub known : b.member < n
  pub some : 1 ≤ b.size
  pub whole : b.size ≤ 1000000
  pub price : unsigned_abs b.price ≤ 10000000000

-- a round with n members
pub record KeptBidding (n : ℕ) (r : Bidding) : Type 0 where
  pub few : length r.bids ≤ 96
  pub each : AllByRecursion (KeptBid n) r.bids
  -- in rank order
  pub in_order : InOrder by_price r.bids
  -- one member's sizes together do not pass the whole
  pub sizes : (a : ℕ) → sizes_of a r.bids ≤ 1000000

-- a residual comes after the first strike
abbrev pub KeptLater : (n : ℕ) → Bidding → Option Residual → Type 0
KeptLater n first None = Unit {0}
KeptLater n first (Some r) = (1 ≤ r.parts) × (r.parts ≤ 999999) × (first.struck ≡ true) × KeptBidding n r.second

-- a package with n members
pub record KeptPackage (n : ℕ) (p : Package) : Type 0 where
  pub margin_low : 1 ≤ p.margin
  pub margin_high : p.margin ≤ 1000000000
  pub price : unsigned_abs p.reference ≤ 10000000000
  -- every bit of the set is that of a member, and somebody is not excused
  pub no_stray : p.excused < 2 ^ n
  pub serving : all_excused p.excused n ≡ false
  pub first : KeptBidding n p.first
  pub later : KeptLater n p.first p.residual

-- what is kept of a settlement
abbrev pub KeptOutcome : Option Outcome → Type 0
KeptOutcome None = Unit {0}
KeptOutcome (Some o) = (o.loss ≤ 170000000000) × (o.unborne ≤ o.loss) × (o.surplus ≤ 160000000000)

abbrev pub KeptCharges : Option (ℕ → ℕ) → Type 0
KeptCharges None = Unit {0}
KeptCharges (Some charge) = (a : ℕ) → charge a ≤ 10000000000

pub record Bounded (s : State) : Type 0 where
  pub multiplier_low : 1000 ≤ s.multiplier
  pub multiplier_high : s.multiplier ≤ 4000
  pub members_few : length s.members ≤ 60
  -- a closed roll is not empty
  pub members_some : is_roll s.stage ≡ false → 0 < length s.members
  pub contributions_low : EachMember (λ m. 1 ≤ m.contribution) s.members
  pub contributions_high : EachMember (λ m. m.contribution ≤ 25000000) s.members
  pub names_eight : EachMember (λ m. length m.name.bytes ≡ 8) s.members
  pub names_plain : EachMember (λ m. is_plain m.name.bytes ≡ true) s.members
  -- of any two members the one in front has the lower name: so no two have the same
  pub names_ascend : (i j : ℕ) (d : Member) → (i < j) × (j < length s.members) → is_lt (by_name (slice_index_or s.members i d) (slice_index_or s.members j d)) ≡ true
  pub packages_few : length s.packages ≤ 8
  -- before the roll is closed there is none
  pub packages_none : is_roll s.stage ≡ true → length s.packages ≡ 0
  pub packages_kept : AllByRecursion (KeptPackage (length s.members)) s.packages
  pub outcome_kept : KeptOutcome s.outcome
  pub charges_kept : KeptCharges s.charges
