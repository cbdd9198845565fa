-- What a list of calls says by itself: who was enrolled, which packages came, and what came in each round.
use Rattle.std.specs.Prelude.{◌≡◌, ℕ, ◌+◌, ◌≤◌, Bool, true, false, cond, List, [], ◌∷◌, ◌++◌, Some, None, Option, ◌==◌, nat_lt}
use Rattle.ranked.specs.Order.{arrivals}
use Rattle.rules.specs.declared.bid.Bid.{Bid}
use Rattle.rules.specs.declared.member.Member.{Member}
use Rattle.rules.specs.Bids.{by_price}
use Rattle.calls.specs.declared.round_number.RoundNumber.{RoundNumber}
use Rattle.calls.specs.declared.round_number.RoundNumber.TheVariants.{First, Second}
use Rattle.calls.specs.Packages.{Bidding, Residual, Package, newly}
use Rattle.calls.specs.Calls.{Call, refusal, unless, after}
use Rattle.calls.specs.Calls.Call.{multiplier, enrol, close_roll, new_package, bid, strike, residual, settle}

-- ---- the roll

abbrev pub joined : Call → List Member → List Member
joined (multiplier x) ms = ms
joined (enrol m) ms = m ∷ ms
joined close_roll ms = ms
joined (new_package margin reference excused) ms = ms
joined (bid k b) ms = ms
joined (strike k) ms = ms
joined (residual k parts) ms = ms
joined (settle x) ms = ms

-- the members of the enrolments that were accepted
abbrev pub enrolled : List Call → List Member
enrolled [] = []
enrolled (c ∷ h) = unless (refusal (after h) c) (joined c (enrolled h)) (enrolled h)

-- ---- packages

abbrev pub opened_by : Call → List Package → List Package
opened_by (multiplier x) ps = ps
opened_by (enrol m) ps = ps
opened_by close_roll ps = ps
opened_by (new_package margin reference excused) ps = ps ++ newly margin reference excused ∷ []
opened_by (bid k b) ps = ps
opened_by (strike k) ps = ps
opened_by (residual k parts) ps = ps
opened_by (settle x) ps = ps

-- the packages that were accepted, in the order in which they came, each as it opened
abbrev pub openings : List Call → List Package
openings [] = []
openings (c ∷ h) = unless (refusal (after h) c) (opened_by c (openings h)) (openings h)

-- a package as it opened
abbrev pub as_opened : Package → Package
as_opened p = newly p.margin p.reference p.excused

-- ---- residuals

abbrev pub cuts_by : Call → (k : ℕ) → Option ℕ → Option ℕ
cuts_by (multiplier x) k o = o
cuts_by (enrol m) k o = o
cuts_by close_roll k o = o
cuts_by (new_package margin reference excused) k o = o
cuts_by (bid j b) k o = o
cuts_by (strike j) k o = o
cuts_by (residual j parts) k o = cond (j == k) (Some parts) o
cuts_by (settle x) k o = o

-- the parts of the residual of package k that was accepted, if there was one
abbrev pub cuts : List Call → (k : ℕ) → Option ℕ
cuts [] k = None
cuts (c ∷ h) k = unless (refusal (after h) c) (cuts_by c k (cuts h k)) (cuts h k)

-- ---- strikes

abbrev pub strikes_by : Call → (k : ℕ) → ℕ → ℕ
strikes_by (multiplier x) k n = n
strikes_by (enrol m) k n = n
strikes_by close_roll k n = n
strikes_by (new_package margin reference excused) k n = n
strikes_by (bid j b) k n = n
strikes_by (strike j) k n = cond (j == k) (n + 1) n
strikes_by (residual j parts) k n = n
strikes_by (settle x) k n = n

-- how many strikes of package k were accepted
abbrev pub strikes : List Call → (k : ℕ) → ℕ
strikes [] k = 0
strikes (c ∷ h) k = unless (refusal (after h) c) (strikes_by c k (strikes h k)) (strikes h k)

-- ---- bids

-- the round that takes bids once a residual was accepted, or as long as none was
abbrev pub is_for : RoundNumber → (cut : Option ℕ) → Bool
is_for First None = true
is_for First (Some parts) = false
is_for Second None = false
is_for Second (Some parts) = true

abbrev pub bids_by : Call → (k : ℕ) → (taken : Bool) → List Bid → List Bid
bids_by (multiplier x) k taken bs = bs
bids_by (enrol m) k taken bs = bs
bids_by close_roll k taken bs = bs
bids_by (new_package margin reference excused) k taken bs = bs
bids_by (bid j b) k taken bs = cond (j == k) (cond taken (bs ++ b ∷ []) bs) bs
bids_by (strike j) k taken bs = bs
bids_by (residual j parts) k taken bs = bs
bids_by (settle x) k taken bs = bs

-- the bids that were accepted for a round of package k, in the order in which they came
abbrev pub bids_for : List Call → (k : ℕ) → RoundNumber → List Bid
bids_for [] k n = []
bids_for (c ∷ h) k n = unless (refusal (after h) c) (bids_by c k (is_for n (cuts h k)) (bids_for h k n)) (bids_for h k n)

-- ---- the rounds of a package, as the list tells them

-- no residual came: so one strike at most, and nothing for a second round. Or one came, and opened it
abbrev pub ToldLater : (seconds : List Bid) → (strikes : ℕ) → (cut : Option ℕ) → Option Residual → Type 0
ToldLater seconds strikes cut None = (cut ≡ None) × (strikes ≤ 1) × (seconds ≡ [])
ToldLater seconds strikes cut (Some r) =
    (cut ≡ Some r.parts) × (r.second.bids ≡ arrivals by_price [] seconds) × (r.second.struck ≡ nat_lt 1 strikes)

-- a round holds the bids that came for it, in order of rank, and level ones as they came; the first strike closed the
-- first round, and the second the second
pub record Told (firsts seconds : List Bid) (strikes : ℕ) (cut : Option ℕ) (first : Bidding) (later : Option Residual) : Type 0 where
  pub first_bids : first.bids ≡ arrivals by_price [] firsts
  pub first_struck : first.struck ≡ nat_lt 0 strikes
  pub second : ToldLater seconds strikes cut later
