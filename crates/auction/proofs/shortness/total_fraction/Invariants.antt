use Rattle.std.proofs.Common.{◌≡◌, ℕ, ◌*◌, ◌<◌, ◌≤◌}
use Rattle.shares.specs.Sums.{total}
use Rattle.auction.specs.Shortness.{margin_at, fraction_at}
use Rattle.auction.proofs.shortness.total_fraction.Given as goal

abbrev pub invariant-loop-package : goal.invariant-loop-package
invariant-loop-package l =
    (l.margins ≡ total l.package-index (margin_at l.packages))
    × (l.weighed ≡ total l.package-index (λ k. margin_at l.packages k * fraction_at l.packages k))
    × (l.margins ≤ 18446744073709551616 * l.package-index)
    × (l.weighed ≤ 18446744073709551616000000 * l.package-index)
    × ((k : ℕ) → k < l.package-index → fraction_at l.packages k ≤ 1000000)
