use Rattle.std.proofs.Common.{◌≡◌, ℕ, ◌*◌, ◌/◌, ◌≤◌, length, sym, ap, ◌∙◌, arith, below_more}
use Rattle.shares.proofs.Totals.{total_none, total_more}
use Rattle.auction.specs.Shortness.{fraction_at, margin_at}
use Rattle.auction.proofs.Quotients.{product_low, quotient_is, total_is, total_low}
use Rattle.auction.proofs.shortness.total_fraction.Goals as goal

pub loop-package-init : goal.loop-package-init
loop-package-init c =
    (sym (total_none (margin_at c.args.packages.now)), sym (total_none (λ k. margin_at c.args.packages.now k * fraction_at c.args.packages.now k)), omega arith, omega arith, λ k l. absurd (omega arith))

-- what a package adds
same : (a b c d : ℕ) → a ≡ c → b ≡ d → a * b ≡ c * d
same a b c d e f = ap (λ (n : ℕ). n * b) e ∙ ap (λ (n : ℕ). c * n) f

pub loop-package-preserved : goal.loop-package-preserved
loop-package-preserved c =
    let adds = same c.from.result c.from-in-loop-package.result (margin_at c.args.packages.now c.loop-package.package-index) (fraction_at c.args.packages.now c.loop-package.package-index) (omega arith) (omega arith) in (
      omega (arith, total_more c.loop-package.package-index (margin_at c.args.packages.now)),
      omega (arith, adds, total_more c.loop-package.package-index (λ k. margin_at c.args.packages.now k * fraction_at c.args.packages.now k)),
      omega arith,
      omega (arith, adds, product_low (margin_at c.args.packages.now c.loop-package.package-index) (fraction_at c.args.packages.now c.loop-package.package-index) (omega arith) (omega arith)),
      below_more (λ k. fraction_at c.args.packages.now k ≤ 1000000) c.loop-package.package-index c.loop-package.invariant.4 (omega arith),
    )

pub overflow_cast-result : goal.overflow_cast-result
overflow_cast-result c =
    omega (
      arith,
      c.unwrap_or.ensures,
      quotient_is c.checked_div.result c.loop-package.weighed c.loop-package.margins c.checked_div.ensures,
      total_low c.args.packages.now c.loop-package.package-index c.loop-package.margins c.loop-package.weighed (omega arith) c.loop-package.invariant.0 c.loop-package.invariant.1 (λ k l. c.loop-package.invariant.4 k (omega arith)),
    )

pub returns : goal.returns
returns c =
    let e : c.loop-package.package-index ≡ length c.args.packages.now = omega arith in
    let is : c.unwrap_or.result ≡ c.loop-package.weighed / c.loop-package.margins =
    c.unwrap_or.ensures ∙ quotient_is c.checked_div.result c.loop-package.weighed c.loop-package.margins c.checked_div.ensures in (
      record { few = c.if-packages-gt8.false; low = λ k l. c.loop-package.invariant.4 k (omega arith) },
      is ∙ total_is c.args.packages.now c.loop-package.package-index c.loop-package.margins c.loop-package.weighed e c.loop-package.invariant.0 c.loop-package.invariant.1,
      omega (arith, is, total_low c.args.packages.now c.loop-package.package-index c.loop-package.margins c.loop-package.weighed e c.loop-package.invariant.0 c.loop-package.invariant.1 (λ k l. c.loop-package.invariant.4 k (omega arith))),
    )
