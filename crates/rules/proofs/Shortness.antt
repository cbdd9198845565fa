-- Fractions: none passes one, and who does not fall short has none.
use Rattle.std.proofs.Common.{◌≡◌, ℕ, ◌+◌, ◌-◌, ◌*◌, ◌/◌, ◌<◌, ◌≤◌, eqb, refl, ap, ◌∙◌, mul-le-mul_right, mul_comm, add-mul, mul-le-mul_left, mul-zero, arith}
use native.Mathlib.Nat.{zero-div, div-le_of_le-mul}
use Rattle.std.proofs.lemmas.Bool.{cond_both, cond-true, eq-eqb}
use Rattle.shares.specs.Sums.{total}
use Rattle.shares.proofs.Totals.{total-le, total_times, total-zero}
use Rattle.rules.specs.Minimums.{all_parts}
use Rattle.rules.specs.Rounds.{Round, shortfall}
use Rattle.rules.specs.Fractions.{fraction_of, round_fraction, PackageRounds, weighed, package_fraction, total_fraction, junior_part}
use Rattle.rules.specs.Fractions.PackageRounds.{first_only, with_residual}
use Rattle.rules.specs.FractionLaws.{InParts, FractionsBounded, PartsMakeContribution, NeverShort, NoShortfallNoFraction}

-- ---- none passes one

fraction_bounded : (short minimum : ℕ) → short ≤ minimum → fraction_of short minimum ≤ all_parts
fraction_bounded short minimum h =
    cond_both (eqb minimum 0) 0 (short * all_parts / minimum) (λ n. n ≤ all_parts) (λ _. omega arith)
    (λ _. div-le_of_le-mul minimum (mul-le-mul_right all_parts h))

pub round_fraction_bounded : (r : Round) (a : ℕ) → round_fraction r a ≤ all_parts
unfolding round_fraction shortfall
round_fraction_bounded r a = fraction_bounded (shortfall r a) (r.minimum a) (omega arith)

weighed_bounded : (residual first second : ℕ) → residual ≤ all_parts → first ≤ all_parts → second ≤ all_parts → weighed residual first second ≤ all_parts
weighed_bounded residual first second h k l =
    div-le_of_le-mul all_parts
    (omega (arith, mul-le-mul_left (all_parts - residual) k, mul-le-mul_left residual l, add-mul (all_parts - residual) residual all_parts))

pub package_fraction_bounded : (rounds : PackageRounds) → InParts rounds → (a : ℕ) → package_fraction rounds a ≤ all_parts
package_fraction_bounded (first_only first) h a = round_fraction_bounded first a
package_fraction_bounded (with_residual first residual second) h a =
    weighed_bounded residual (round_fraction first a) (round_fraction second a) h (round_fraction_bounded first a) (round_fraction_bounded second a)

pub total_fraction_bounded : (count : ℕ) (margin fraction : ℕ → ℕ) → ((k : ℕ) → k < count → fraction k ≤ all_parts) → total_fraction count margin fraction ≤ all_parts
unfolding total_fraction
total_fraction_bounded count margin fraction h =
    div-le_of_le-mul (total count margin)
    (omega (arith, total-le count (λ k. margin k * fraction k) (λ k. margin k * all_parts) (λ k l. mul-le-mul_left (margin k) (h k l)), total_times count margin all_parts))

pub fractions_bounded : FractionsBounded
fractions_bounded = record { of_round = round_fraction_bounded; of_package = package_fraction_bounded; in_total = total_fraction_bounded }

pub junior_within : (contribution fraction : ℕ) → fraction ≤ all_parts → junior_part contribution fraction ≤ contribution
junior_within contribution fraction h =
    div-le_of_le-mul all_parts (omega (arith, mul-le-mul_left contribution h, mul_comm contribution all_parts))

pub parts_make_contribution : PartsMakeContribution
parts_make_contribution contribution fraction h = omega (arith, junior_within contribution fraction h)

-- ---- who does not fall short

fraction_none : (short minimum : ℕ) → short ≡ 0 → fraction_of short minimum ≡ 0
fraction_none short minimum e =
    cond_both (eqb minimum 0) 0 (short * all_parts / minimum) (λ n. n ≡ 0) (λ _. refl)
    (λ _. ap (λ n. n * all_parts / minimum) e ∙ zero-div minimum)

pub round_fraction_none : (r : Round) (a : ℕ) → shortfall r a ≡ 0 → round_fraction r a ≡ 0
unfolding round_fraction
round_fraction_none r a e = fraction_none (shortfall r a) (r.minimum a) e

pub round_no_minimum : (r : Round) (a : ℕ) → r.minimum a ≡ 0 → round_fraction r a ≡ 0
unfolding round_fraction
round_no_minimum r a e = cond-true (eqb (r.minimum a) 0) 0 (shortfall r a * all_parts / r.minimum a) (eq-eqb (r.minimum a) 0 e)

weighed_none : (residual first second : ℕ) → first ≡ 0 → second ≡ 0 → weighed residual first second ≡ 0
weighed_none residual first second e f =
    let none : (all_parts - residual) * first + residual * second ≡ 0 =
    omega (arith, ap (λ n. (all_parts - residual) * n) e, ap (λ n. residual * n) f, mul-zero (all_parts - residual), mul-zero residual) in
    ap (λ n. n / all_parts) none

pub package_fraction_none : (rounds : PackageRounds) (a : ℕ) → NeverShort rounds a → package_fraction rounds a ≡ 0
package_fraction_none (first_only first) a e = round_fraction_none first a e
package_fraction_none (with_residual first residual second) a e =
    weighed_none residual (round_fraction first a) (round_fraction second a) (round_fraction_none first a e.0) (round_fraction_none second a e.1)

pub total_fraction_none : (count : ℕ) (margin fraction : ℕ → ℕ) → ((k : ℕ) → k < count → fraction k ≡ 0) → total_fraction count margin fraction ≡ 0
unfolding total_fraction
total_fraction_none count margin fraction h =
    let none : total count (λ k. margin k * fraction k) ≡ 0 =
    total-zero count (λ k. margin k * fraction k) (λ k l. ap (λ n. margin k * n) (h k l) ∙ mul-zero (margin k)) in
    ap (λ n. n / total count margin) none ∙ zero-div (total count margin)

pub junior_none : (contribution fraction : ℕ) → fraction ≡ 0 → junior_part contribution fraction ≡ 0
junior_none contribution fraction e = ap (λ n. n / all_parts) (ap (λ n. contribution * n) e ∙ mul-zero contribution)

pub no_shortfall_no_fraction : NoShortfallNoFraction
no_shortfall_no_fraction =
    record {
      of_round = round_fraction_none;
      no_minimum = round_no_minimum;
      of_package = package_fraction_none;
      in_total = λ count margin rounds a h. total_fraction_none count margin (λ k. package_fraction (rounds k) a) (λ k l. package_fraction_none (rounds k) a (h k l));
      no_junior = λ count margin rounds a h contribution.
          junior_none contribution (total_fraction count margin (λ k. package_fraction (rounds k) a))
          (total_fraction_none count margin (λ k. package_fraction (rounds k) a) (λ k l. package_fraction_none (rounds k) a (h k l)));
    }
