-- What holds after every list of calls.
use Rattle.std.specs.Prelude.{◌≡◌, ℕ, ◌<◌, ◌≤◌, true, false, List, [], ◌∷◌, length, slice_index_or}
use Rattle.std.specs.Ordering.{is_lt}
use Rattle.std.specs.List.Sorted.{IsPermutation}
use Rattle.rules.specs.declared.member.Member.{Member}
use Rattle.rules.specs.Names.{is_plain}
use Rattle.rules.specs.Members.{by_name}
use Rattle.rules.specs.State.{State, is_roll}
use Rattle.rules.specs.Calls.{Call, refusal, unless, after, Fair}
use Rattle.rules.specs.Calls.Call.{multiplier, enrol, close_roll}

-- of each member of a list
abbrev pub EachMember : (Member → Type 0) → List Member → Type 0
EachMember P ms = (k : ℕ) (d : Member) → k < length ms → P (slice_index_or ms k d)

-- the limits that a record keeps
pub record Bounded (s : State) : Type 0 where
  pub multiplier_low : 1000 ≤ s.multiplier
  pub multiplier_high : s.multiplier ≤ 4000
  pub members_few : length s.members ≤ 60
  -- a closed roll is not empty
  pub members_some : is_roll s.stage ≡ false → 0 < length s.members
  pub contributions_low : EachMember (λ m. 1 ≤ m.contribution) s.members
  pub contributions_high : EachMember (λ m. m.contribution ≤ 25000000) s.members
  pub names_eight : EachMember (λ m. length m.name.bytes ≡ 8) s.members
  pub names_plain : EachMember (λ m. is_plain m.name.bytes ≡ true) s.members
  -- of any two members the one in front has the lower name: so no two have the same
  pub names_ascend : (i j : ℕ) (d : Member) → (i < j) × (j < length s.members) → is_lt (by_name (slice_index_or s.members i d) (slice_index_or s.members j d)) ≡ true

-- who was enrolled by a list of calls: the members of the enrolments that were accepted
abbrev pub joined : Call → List Member → List Member
joined (multiplier x) ms = ms
joined (enrol m) ms = m ∷ ms
joined close_roll ms = ms

abbrev pub enrolled : List Call → List Member
enrolled [] = []
enrolled (c ∷ h) = unless (refusal (after h) c) (joined c (enrolled h)) (enrolled h)

-- the law of a list of calls
pub record Law (h : List Call) : Type 0 where
  pub bounded : Bounded (after h)
  -- on the roll are those who were enrolled, each once, and nobody else
  pub roll : IsPermutation (enrolled h) (after h).members

abbrev pub EveryList : Type 0
EveryList = (h : List Call) → Fair h → Law h

-- a record came from a new one by a list of calls that the law holds of
abbrev pub Lawful : State → Type 0
Lawful s = ∥ ((h : List Call) × (Fair h × ((s ≡ after h) × Law h))) ∥₁
