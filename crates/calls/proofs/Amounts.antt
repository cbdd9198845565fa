-- How large the amounts of a settlement can become.
use Rattle.std.proofs.Common.{◌≡◌, ℕ, ◌+◌, ◌-◌, ◌<◌, ◌≤◌, Bool, false, ◌||◌, ◌⊎◌, length, ℤ, pos, negsuc, ◌-ℤ◌, Some, None, Option, ap, inl, inr, arith}
use borrow.Author.Differences.{up, down, ints}
use Rattle.std.proofs.lemmas.Bool.Decides.{nat_tests}
use Rattle.std.proofs.ByRecursion.{All-get_or}
use Rattle.std.proofs.lemmas.List.{get_or_past}
use Rattle.std.proofs.lemmas.Bool.{cases_lt}
use Rattle.rules.specs.declared.member.Member.{Member}
use Rattle.rules.specs.FractionLaws.{InParts}
use Rattle.rules.specs.Members.{nobody}
use Rattle.rules.specs.Minimums.{all_parts, contributed}
use Rattle.rules.proofs.Shortness.{package_fraction_bounded, total_fraction_bounded, parts_make_contribution}
use Rattle.tiers.specs.OwnPile.{Rows, InLimits, estate_row, own_share_row, member_row, to_own_share, to_juniors, to_seniors, own_charge}
use Rattle.tiers.proofs.Rules.{in_turn_lawful, pro_rata_lawful}
use Rattle.calls.specs.Packages.{Residual, Package, no_package}
use Rattle.calls.specs.State.{State, package_at}
use Rattle.calls.specs.Held.{brought, rounds_with, rounds_of, fraction_in, fraction_over, junior_of, senior_of}
use Rattle.calls.specs.Settlements.{Settlement, pasts, amount_pasts, hedged, or_none, loss, surplus, unborne_of, outcome_of, own_of, charges_of}
use Rattle.calls.specs.Settlements.Settlement.{over, own}
use Rattle.calls.specs.Limits.{KeptLater, KeptPackage, KeptOutcome, KeptCharges, Bounded}
use Rattle.calls.proofs.HeldRounds.{Small, brought_limit}

either_of : (a b : Bool) → a || b ≡ false → (a ≡ false) × (b ≡ false)
either_of a b h = (grind (arith, nat_tests), grind (arith, nat_tests))

low_of : (x : ℕ) → pasts x ≡ false → x ≤ 10000000000
low_of x h = grind (arith, nat_tests)

pub hedging_low : (x : Settlement) → amount_pasts x ≡ false → hedged x ≤ 10000000000
hedging_low (over hedging p q) h = low_of hedging h
hedging_low (own hedging cash pledges share) h = low_of hedging (either_of (pasts hedging) (pasts cash || (pasts pledges || pasts share)) h).0

-- ---- loss and surplus

pub none_is : (z : ℤ) → or_none z ≡ up z - down z
none_is (pos n) = omega arith
none_is (negsuc n) = omega arith

loss_low : (z : ℤ) (hedging : ℕ) → hedging ≤ 10000000000 → Small 160000000000 z → or_none (pos hedging -ℤ z) ≤ 170000000000
loss_low z hedging h small = omega (arith, ints, none_is (pos hedging -ℤ z), small)

surplus_low : (z : ℤ) (hedging : ℕ) → Small 160000000000 z → or_none (z -ℤ pos hedging) ≤ 160000000000
surplus_low z hedging small = omega (arith, ints, none_is (z -ℤ pos hedging), small)

pub outcome_kept : (s : State) (x : Settlement) → Bounded s → amount_pasts x ≡ false → KeptOutcome (Some (outcome_of s x))
unfolding loss surplus unborne_of
outcome_kept s x b h =
    let small = brought_limit s b in
    let low = loss_low (brought s) (hedged x) (hedging_low x h) small in
    (low, omega arith, surplus_low (brought s) (hedged x) small)

-- ---- charges

contributed_low : (s : State) → Bounded s → (a : ℕ) → contributed s.members a ≤ 25000000
contributed_low s b a = by_order (cases_lt a (length s.members))
  where
    by_order : (a < length s.members) ⊎ (length s.members ≤ a) → contributed s.members a ≤ 25000000
    by_order (inl l) = b.contributions_high a nobody l
    by_order (inr l) = omega (arith, ap (λ (m : Member). m.contribution) (get_or_past s.members a nobody l))

in_parts : (n : ℕ) (s : State) (p : Package) (o : Option Residual) → KeptLater n p.first o → InParts (rounds_with s p o)
in_parts n s p None l = tt
in_parts n s p (Some r) l = omega (arith, l.1)

pub fraction_in_low : (s : State) → Bounded s → (k a : ℕ) → k < length s.packages → fraction_in s k a ≤ all_parts
fraction_in_low s b k a l =
    let kept = All-get_or (KeptPackage (length s.members)) s.packages k no_package l b.packages_kept in
    package_fraction_bounded (rounds_of s (package_at s k)) (in_parts (length s.members) s (package_at s k) (package_at s k).residual kept.later) a

pub fraction_over_low : (s : State) → Bounded s → (a : ℕ) → fraction_over s a ≤ all_parts
unfolding fraction_over
fraction_over_low s b a = total_fraction_bounded (length s.packages) (λ k. (package_at s k).margin) (λ k. fraction_in s k a) (λ k l. fraction_in_low s b k a l)

parts_low : (s : State) → Bounded s → (a : ℕ) → junior_of s a + senior_of s a ≤ 25000000
parts_low s b a = omega (arith, parts_make_contribution (contributed s.members a) (fraction_over s a) (fraction_over_low s b a), contributed_low s b a)

-- what an account can bear in all
rows_low : (cash pledges share junior senior a : ℕ) → cash ≤ 10000000000 → pledges ≤ 10000000000 → share ≤ 10000000000 → junior + senior ≤ 25000000 →
    estate_row cash pledges a + (own_share_row share a + (member_row (λ _. junior) a + member_row (λ _. senior) a)) ≤ 10000000000
rows_low cash pledges share junior senior a c p s m = grind (arith, nat_tests)

pub charge_low : (k : Rows) (x a : ℕ) → own_charge k x a ≤ k.estate a + (k.own_share a + (k.juniors a + k.seniors a))
charge_low k x a =
    omega (
      arith,
      in_turn_lawful.within k.estate x a,
      in_turn_lawful.within k.own_share (to_own_share k x) a,
      pro_rata_lawful.within k.juniors (to_juniors k x) a,
      pro_rata_lawful.within k.seniors (to_seniors k x) a,
    )

-- the three amounts and the parts are within the limits of capacities
pub own_in_limits : (s : State) (hedging cash pledges share : ℕ) → Bounded s → amount_pasts (own hedging cash pledges share) ≡ false → InLimits cash pledges share (junior_of s) (senior_of s)
own_in_limits s hedging cash pledges share b h =
    let first = either_of (pasts hedging) (pasts cash || (pasts pledges || pasts share)) h in
    let second = either_of (pasts cash) (pasts pledges || pasts share) first.1 in
    let third = either_of (pasts pledges) (pasts share) second.1 in
    record {
      cash_low = low_of cash second.0;
      pledges_low = low_of pledges third.0;
      share_low = low_of share third.1;
      juniors_low = λ a l. omega (arith, parts_low s b a);
      seniors_low = λ a l. omega (arith, parts_low s b a);
    }

pub charges_kept : (s : State) (x : Settlement) → Bounded s → amount_pasts x ≡ false → KeptCharges (charges_of s x)
charges_kept s (over hedging p q) b h = tt
charges_kept s (own hedging cash pledges share) b h = λ a.
    let within = own_in_limits s hedging cash pledges share b h in
    omega (
      arith,
      charge_low (own_of s cash pledges share) (loss s (own hedging cash pledges share)) a,
      rows_low cash pledges share (junior_of s a) (senior_of s a) a within.cash_low within.pledges_low within.share_low (parts_low s b a),
    )
