-- What holds after every list of calls.
use Rattle.std.specs.Prelude.{◌≡◌, ℕ, ◌+◌, ◌<◌, ◌≤◌, true, false, cond, List, [], ◌∷◌, map, length, pos, ◌+ℤ◌, ◌≤ℤ◌, Some, None, Option}
use Rattle.std.specs.List.Sorted.{IsPermutation}
use Rattle.std.specs.Option.{option_map}
use Rattle.shares.specs.Sums.{total}
use Rattle.rules.specs.Books.{Within, worth}
use Rattle.rules.specs.Minimums.{all_parts}
use Rattle.rules.specs.Residuals.{cut_offer}
use Rattle.rules.specs.Rounds.{market, givings, allotment}
use Rattle.rules.specs.FractionLaws.{NeverShort}
use Rattle.tiers.specs.Piles.{borne_at, left_at}
use Rattle.tiers.specs.Waterfall.{charged, charges, Spent, UpperFirst}
use Rattle.tiers.specs.OwnPile.{own_charges}
use Rattle.calls.specs.declared.round_number.RoundNumber.{RoundNumber}
use Rattle.calls.specs.declared.round_number.RoundNumber.TheVariants.{First, Second}
use Rattle.calls.specs.State.{State, package_at, is_settled}
use Rattle.calls.specs.Held.{Held, held_in, rounds_of, brought, junior_of}
use Rattle.calls.specs.Settlements.{Settlement, hedged, loss, surplus, unborne_of, outcome_of, own_of, pile_before, pile_then}
use Rattle.calls.specs.Settlements.Settlement.{over, own}
use Rattle.calls.specs.Calls.{Call, refusal, unless, after, Fair}
use Rattle.calls.specs.Calls.Call.{multiplier, enrol, close_roll, new_package, bid, strike, residual, settle}
use Rattle.calls.specs.Limits.{Bounded}
use Rattle.calls.specs.Traces.{enrolled, openings, as_opened, cuts, strikes, bids_for, Told}

-- ---- rounds

-- a round as last divided
pub record DividedWell (h : Held) : Type 0 where
  -- the allotments add up to the offer
  pub whole : total h.round.members (allotment h.round h.offer) ≡ h.offer
  -- every other giving of as many parts in all to the market bids, none beyond its size, is worth at most as much
  pub best : (g : ℕ → ℕ) → Within (market h.round) g →
      total (length h.round.bids) g ≡ total (length h.round.bids) (givings h.round h.offer) →
      worth (market h.round) g ≤ℤ worth (market h.round) (givings h.round h.offer)

-- of each struck round
abbrev pub EachStruck : (Held → Type 0) → State → Type 0
EachStruck P s = (k : ℕ) (n : RoundNumber) (h : Held) → held_in s k n ≡ Some h → h.struck ≡ true → P h

-- after a strike of package k: each of its rounds is struck, and divided well
abbrev pub StruckWell : State → (k : ℕ) → Type 0
StruckWell s k = (n : RoundNumber) (h : Held) → held_in s k n ≡ Some h → (h.struck ≡ true) × DividedWell h

-- after a residual of package k: its first round is struck, offers what the residual leaves, and is divided well; its
-- second round is open, has no bid, and offers the whole
pub record CutWell (s : State) (k parts : ℕ) : Type 0 where
  pub first : (h : Held) → held_in s k First ≡ Some h → (h.struck ≡ true) × (h.offer ≡ cut_offer parts) × DividedWell h
  pub second : (h : Held) → held_in s k Second ≡ Some h → (h.struck ≡ false) × (h.offer ≡ all_parts) × (h.round.bids ≡ [])
  pub opened : (h : Held) × (held_in s k Second ≡ Some h)

-- ---- settlements

-- member m has no shortfall in any round
abbrev pub NoShortfall : State → (m : ℕ) → Type 0
NoShortfall s m = (k : ℕ) → k < length s.packages → NeverShort (rounds_of s (package_at s k)) m

-- over our own pile a member with no shortfall is charged only if every junior part is spent
abbrev pub Spared : State → Settlement → Type 0
Spared s (over hedging p q) = Unit {0}
Spared s (own hedging cash pledges share) =
    (m : ℕ) → m < length s.members → NoShortfall s m →
    0 < charged (pile_before s (own hedging cash pledges share)) (pile_then s (own hedging cash pledges share)) m →
    (a : ℕ) → a < 60 → (own_charges (own_of s cash pledges share) (loss s (own hedging cash pledges share))).juniors a ≡ junior_of s a

-- what is kept account by account: of our own pile what each was charged, of a pile that was given nothing
abbrev pub Keeps : Option (ℕ → ℕ) → State → Settlement → Type 0
Keeps kept s (over hedging p q) = kept ≡ None
Keeps kept s (own hedging cash pledges share) =
    (a : ℕ) → a < 64 →
    option_map (λ f. f a) kept ≡ Some (charged (pile_before s (own hedging cash pledges share)) (pile_then s (own hedging cash pledges share)) a)

-- of a settlement x of the state s, of which the record is now at t
pub record SettledWell (t s : State) (x : Settlement) : Type 0 where
  -- unborne loss and surplus are kept
  pub outcome : t.outcome ≡ Some (outcome_of s x)
  pub keeps : Keeps t.charges s x
  -- all transfers, all charges and the unborne loss come to the hedging cost and the surplus
  pub whole : brought s +ℤ pos (charges (pile_before s x) (pile_then s x)) +ℤ pos (unborne_of s x) ≡ pos (hedged x) +ℤ pos (surplus s x)
  -- charges and the unborne loss are the loss, and there is no surplus beside a loss
  pub loss_is : charges (pile_before s x) (pile_then s x) + unborne_of s x ≡ loss s x
  pub either : 0 < loss s x → surplus s x ≡ 0
  -- no account's amount borne falls, and none is charged past what it could bear
  pub rises : (a : ℕ) → a < 64 → borne_at (pile_before s x) a ≤ borne_at (pile_then s x) a
  pub within : (a : ℕ) → a < 64 → charged (pile_before s x) (pile_then s x) a ≤ left_at (pile_before s x) a
  -- wherever a pile is set above another, the lower is charged only if the upper then has nothing left
  pub order : UpperFirst (pile_before s x) (pile_then s x)
  -- loss is unborne only if no account then has anything left
  pub last : 0 < unborne_of s x → Spent (pile_then s x)
  pub spared : Spared s x

abbrev pub settling : State → Call → List (State × Settlement) → List (State × Settlement)
settling s (multiplier x) xs = xs
settling s (enrol m) xs = xs
settling s close_roll xs = xs
settling s (new_package margin reference excused) xs = xs
settling s (bid k b) xs = xs
settling s (strike k) xs = xs
settling s (residual k parts) xs = xs
settling s (settle x) xs = (s, x) ∷ xs

-- the settlements that were accepted, each with the state just before it
abbrev pub settlements : List Call → List (State × Settlement)
settlements [] = []
settlements (c ∷ h) = unless (refusal (after h) c) (settling (after h) c (settlements h)) (settlements h)

abbrev pub EachSettled : (State → Settlement → Type 0) → List (State × Settlement) → Type 0
EachSettled P [] = Unit {0}
EachSettled P (x ∷ xs) = P x.0 x.1 × EachSettled P xs

-- ---- the law

-- the law of a list of calls
pub record Law (h : List Call) : Type 0 where
  pub bounded : Bounded (after h)
  -- on the roll are those who were enrolled, each once, and nobody else
  pub roll : IsPermutation (enrolled h) (after h).members
  -- the packages are those that were accepted, in their order
  pub packages : map as_opened (after h).packages ≡ openings h
  -- and each of their rounds holds what came for it
  pub rounds : (k : ℕ) →
      Told (bids_for h k First) (bids_for h k Second) (strikes h k) (cuts h k) (package_at (after h) k).first (package_at (after h) k).residual
  -- each struck round is divided to the last part, and as well as it can be
  pub divided : EachStruck DividedWell (after h)
  -- a settled record has had one settlement, and any other none; it then keeps no outcome
  pub once : length (settlements h) ≡ cond (is_settled (after h).stage) 1 0
  pub unsettled : is_settled (after h).stage ≡ false → ((after h).outcome ≡ None) × ((after h).charges ≡ None)
  -- and that one went well
  pub settled : EachSettled (SettledWell (after h)) (settlements h)

abbrev pub EveryList : Type 0
EveryList = (h : List Call) → Fair h → Law h

-- a record came from a new one by a list of calls that the law holds of
abbrev pub Lawful : State → Type 0
Lawful s = ∥ ((h : List Call) × (Fair h × ((s ≡ after h) × Law h))) ∥₁
