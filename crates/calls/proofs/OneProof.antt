-- The limits of a record are a proposition: so they come out of what a record carries.
use Rattle.std.proofs.Common.{ℕ, List, [], ◌∷◌, length, Some, None, Option}
use mathlib.Core.Bool.{Bool-set}
use native.Mathlib.Bridge.{le_prop}
use native.Mathlib.Nat.{ℕ_set}
use Rattle.std.specs.List.{AllByRecursion as All}
use Rattle.rules.specs.declared.bid.Bid.{Bid}
use Rattle.calls.specs.Packages.{Bidding, Residual, Package}
use Rattle.calls.specs.State.{State}
use Rattle.calls.specs.Calls.{Came}
use Rattle.calls.specs.declared.outcome.Outcome.{Outcome}
use Rattle.calls.specs.Limits.{KeptBid, KeptBidding, KeptLater, KeptPackage, KeptOutcome, KeptCharges, Bounded}
use Rattle.calls.proofs.Histories.{of_came}
use Rattle.calls.proofs.Keeping.{bounded}

all_prop : {A : Type 0} (P : A → Type 0) → ((x : A) → IsProp (P x)) → (xs : List A) → IsProp (All P xs)
all_prop P one [] p q = λ i. tt
all_prop P one (x ∷ xs) p q = λ i. (one x p.0 q.0 i, all_prop P one xs p.1 q.1 i)

bid_prop : (n : ℕ) (b : Bid) → IsProp (KeptBid n b)
bid_prop n b p q = λ i. record {
  known = le_prop p.known q.known i;
  some = le_prop p.some q.some i;
  whole = le_prop p.whole q.whole i;
  price = le_prop p.price q.price i;
}

bidding_prop : (n : ℕ) (r : Bidding) → IsProp (KeptBidding n r)
bidding_prop n r p q = λ i. record {
  few = le_prop p.few q.few i;
  each = all_prop (KeptBid n) (bid_prop n) r.bids p.each q.each i;
  in_order = λ a b d l. Bool-set _ _ (p.in_order a b d l) (q.in_order a b d l) i;
  sizes = λ a. le_prop (p.sizes a) (q.sizes a) i;
}

later_prop : (n : ℕ) (first : Bidding) (o : Option Residual) → IsProp (KeptLater n first o)
later_prop n first None p q = λ i. tt
later_prop n first (Some r) p q = λ i. (
  le_prop p.0 q.0 i,
  le_prop p.1 q.1 i,
  Bool-set _ _ p.2 q.2 i,
  bidding_prop n r.second p.3 q.3 i,
)

package_prop : (n : ℕ) (x : Package) → IsProp (KeptPackage n x)
package_prop n x p q = λ i. record {
  margin_low = le_prop p.margin_low q.margin_low i;
  margin_high = le_prop p.margin_high q.margin_high i;
  price = le_prop p.price q.price i;
  no_stray = le_prop p.no_stray q.no_stray i;
  serving = Bool-set _ _ p.serving q.serving i;
  first = bidding_prop n x.first p.first q.first i;
  later = later_prop n x.first x.residual p.later q.later i;
}

outcome_prop : (o : Option Outcome) → IsProp (KeptOutcome o)
outcome_prop None p q = λ i. tt
outcome_prop (Some o) p q = λ i. (le_prop p.0 q.0 i, le_prop p.1 q.1 i, le_prop p.2 q.2 i)

charges_prop : (o : Option (ℕ → ℕ)) → IsProp (KeptCharges o)
charges_prop None p q = λ i. tt
charges_prop (Some f) p q = λ i a. le_prop (p a) (q a) i

bounded_prop : (s : State) → IsProp (Bounded s)
bounded_prop s p q = λ i. record {
  multiplier_low = le_prop p.multiplier_low q.multiplier_low i;
  multiplier_high = le_prop p.multiplier_high q.multiplier_high i;
  members_few = le_prop p.members_few q.members_few i;
  members_some = λ e. le_prop (p.members_some e) (q.members_some e) i;
  contributions_low = λ k d l. le_prop (p.contributions_low k d l) (q.contributions_low k d l) i;
  contributions_high = λ k d l. le_prop (p.contributions_high k d l) (q.contributions_high k d l) i;
  names_eight = λ k d l. ℕ_set _ _ (p.names_eight k d l) (q.names_eight k d l) i;
  names_plain = λ k d l. Bool-set _ _ (p.names_plain k d l) (q.names_plain k d l) i;
  names_ascend = λ a b d l. Bool-set _ _ (p.names_ascend a b d l) (q.names_ascend a b d l) i;
  packages_few = le_prop p.packages_few q.packages_few i;
  packages_none = λ e. ℕ_set _ _ (p.packages_none e) (q.packages_none e) i;
  packages_kept = all_prop (KeptPackage (length s.members)) (package_prop (length s.members)) s.packages p.packages_kept q.packages_kept i;
  outcome_kept = outcome_prop s.outcome p.outcome_kept q.outcome_kept i;
  charges_kept = charges_prop s.charges p.charges_kept q.charges_kept i;
}

-- every record keeps the limits
pub bounded_of : (s : State) → Came s → Bounded s
bounded_of = of_came Bounded bounded_prop bounded
