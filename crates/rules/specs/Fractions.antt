-- How far a member fell short, in millionths, and how that splits its contribution.
use Rattle.std.specs.Prelude.{ℕ, ◌+◌, ◌-◌, ◌*◌, ◌/◌, cond, ◌==◌}
use Rattle.shares.specs.Sums.{total}
use Rattle.rules.specs.Minimums.{all_parts}
use Rattle.rules.specs.Rounds.{Round, shortfall}

-- a shortfall as a fraction of the minimum; 0 if the minimum is 0
abbrev pub fraction_of : (shortfall minimum : ℕ) → ℕ
fraction_of shortfall minimum = cond (minimum == 0) 0 (shortfall * all_parts / minimum)

-- the fraction of member a in a round
unfoldable pub round_fraction : Round → (a : ℕ) → ℕ
round_fraction r a = fraction_of (shortfall r a) (r.minimum a)

-- the rounds of a package: the first alone, or the first, a residual of some parts, and the second
pub data PackageRounds : Type 0 where
  first_only : (first : Round) → PackageRounds
  with_residual : (first : Round) → (residual : ℕ) → (second : Round) → PackageRounds

-- the fractions of two rounds, each weighed by what it opened with
abbrev pub weighed : (residual first second : ℕ) → ℕ
weighed residual first second = ((all_parts - residual) * first + residual * second) / all_parts

-- the fraction of member a in a package
abbrev pub package_fraction : PackageRounds → (a : ℕ) → ℕ
package_fraction (first_only first) a = round_fraction first a
package_fraction (with_residual first residual second) a = weighed residual (round_fraction first a) (round_fraction second a)

-- a member's fraction over as many packages as `count`, of which each weighs as much as its margin
unfoldable pub total_fraction : (count : ℕ) → (margin fraction : ℕ → ℕ) → ℕ
total_fraction count margin fraction = total count (λ k. margin k * fraction k) / total count margin

-- ---- the two parts of a contribution

-- the part that bears before the other
abbrev pub junior_part : (contribution fraction : ℕ) → ℕ
junior_part contribution fraction = contribution * fraction / all_parts

-- the rest of the contribution
abbrev pub senior_part : (contribution fraction : ℕ) → ℕ
senior_part contribution fraction = contribution - junior_part contribution fraction
