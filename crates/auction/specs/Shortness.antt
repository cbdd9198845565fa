-- What fractions are worked out from.
use Rattle.std.specs.Prelude.{◌≡◌, ℕ, ◌<◌, ◌≤◌, List, length, slice_index_or}
use Rattle.rules.specs.Minimums.{all_parts}
use Rattle.rules.specs.Fractions.{round_fraction, PackageRounds, weighed, total_fraction}
use Rattle.rules.specs.Fractions.PackageRounds.{first_only, with_residual}
use Rattle.auction.specs.declared.fractions.PackageFractions.{PackageFractions}
use Rattle.auction.specs.declared.fractions.PackageFractions.TheVariants.{FirstOnly, WithResidual}
use Rattle.auction.specs.declared.fractions.Weighed.{Weighed}

-- each is a part of one
abbrev pub InMillionths : PackageFractions → Type 0
InMillionths (FirstOnly first) = first ≤ all_parts
InMillionths (WithResidual first residual second) = (first ≤ all_parts) × (residual ≤ all_parts) × (second ≤ all_parts)

-- the fractions of the rounds, each weighed by what it opened with
abbrev pub weighed_in : PackageFractions → ℕ
weighed_in (FirstOnly first) = first
weighed_in (WithResidual first residual second) = weighed residual first second

-- they are those of member a in the rounds of a package
abbrev pub OfRounds : PackageFractions → PackageRounds → (a : ℕ) → Type 0
OfRounds (FirstOnly first) (first_only r) a = first ≡ round_fraction r a
OfRounds (FirstOnly first) (with_residual r residual s) a = ⊥
OfRounds (WithResidual first residual second) (first_only r) a = ⊥
OfRounds (WithResidual first residual second) (with_residual r parts s) a =
    (first ≡ round_fraction r a) × (residual ≡ parts) × (second ≡ round_fraction s a)

-- ---- packages in a total

-- a default for reading a list of packages
abbrev pub no_package : Weighed
no_package = record { margin = 0; fraction = 0 }

abbrev pub margin_at : List Weighed → ℕ → ℕ
margin_at packages k = (slice_index_or packages k no_package).margin

abbrev pub fraction_at : List Weighed → ℕ → ℕ
fraction_at packages k = (slice_index_or packages k no_package).fraction

-- there are at most 8 packages, and no fraction passes one
pub record Countable (packages : List Weighed) : Type 0 where
  pub few : length packages ≤ 8
  pub low : (k : ℕ) → k < length packages → fraction_at packages k ≤ all_parts

abbrev pub total_of : List Weighed → ℕ
total_of packages = total_fraction (length packages) (margin_at packages) (fraction_at packages)
