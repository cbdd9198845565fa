-- The laws of fractions, and of the two parts of a contribution.
use Rattle.std.specs.Prelude.{◌≡◌, ℕ, ◌+◌, ◌<◌, ◌≤◌}
use Rattle.rules.specs.Minimums.{all_parts}
use Rattle.rules.specs.Rounds.{Round, shortfall}
use Rattle.rules.specs.Fractions.{round_fraction, PackageRounds, package_fraction, total_fraction, junior_part, senior_part}
use Rattle.rules.specs.Fractions.PackageRounds.{first_only, with_residual}

-- the residual is a part of the whole
abbrev pub InParts : PackageRounds → Type 0
InParts (first_only first) = Unit {0}
InParts (with_residual first residual second) = residual ≤ all_parts

-- no fraction passes one
pub record FractionsBounded : Type 0 where
  pub of_round : (r : Round) (a : ℕ) → round_fraction r a ≤ all_parts
  pub of_package : (rounds : PackageRounds) → InParts rounds → (a : ℕ) → package_fraction rounds a ≤ all_parts
  pub in_total : (count : ℕ) (margin fraction : ℕ → ℕ) → ((k : ℕ) → k < count → fraction k ≤ all_parts) →
      total_fraction count margin fraction ≤ all_parts

-- the junior and the senior part make the contribution
abbrev pub PartsMakeContribution : Type 0
PartsMakeContribution =
    (contribution fraction : ℕ) → fraction ≤ all_parts →
    junior_part contribution fraction + senior_part contribution fraction ≡ contribution

-- member a has no shortfall in any of the rounds
abbrev pub NeverShort : PackageRounds → (a : ℕ) → Type 0
NeverShort (first_only first) a = shortfall first a ≡ 0
NeverShort (with_residual first residual second) a = (shortfall first a ≡ 0) × (shortfall second a ≡ 0)

-- who has no shortfall has no fraction, and no junior part
pub record NoShortfallNoFraction : Type 0 where
  pub of_round : (r : Round) (a : ℕ) → shortfall r a ≡ 0 → round_fraction r a ≡ 0
  -- nor has one with a minimum of 0
  pub no_minimum : (r : Round) (a : ℕ) → r.minimum a ≡ 0 → round_fraction r a ≡ 0
  pub of_package : (rounds : PackageRounds) (a : ℕ) → NeverShort rounds a → package_fraction rounds a ≡ 0
  pub in_total : (count : ℕ) (margin : ℕ → ℕ) (rounds : ℕ → PackageRounds) (a : ℕ) → ((k : ℕ) → k < count → NeverShort (rounds k) a) →
      total_fraction count margin (λ k. package_fraction (rounds k) a) ≡ 0
  pub no_junior : (count : ℕ) (margin : ℕ → ℕ) (rounds : ℕ → PackageRounds) (a : ℕ) → ((k : ℕ) → k < count → NeverShort (rounds k) a) →
      (contribution : ℕ) → junior_part contribution (total_fraction count margin (λ k. package_fraction (rounds k) a)) ≡ 0
