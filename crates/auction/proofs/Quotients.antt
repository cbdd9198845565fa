-- Bounds of quotients.
use Rattle.std.proofs.Common.{◌≡◌, ℕ, Option, Some, None, unwrap_or, ◌*◌, ◌/◌, ◌<◌, ◌≤◌, List, length, sym, ap, ◌∙◌, mul-le-mul, arith, rules}
use Rattle.std.specs.Option.{SomeIff}
use native.Mathlib.Nat.{div-zero}
use Rattle.shares.specs.Sums.{total}
use Rattle.rules.specs.Fractions.{total_fraction}
use Rattle.rules.proofs.Shortness.{total_fraction_bounded}
use Rattle.auction.specs.declared.fractions.Weighed.{Weighed}
use Rattle.auction.specs.Shortness.{fraction_at, margin_at, total_of}

pub product_low : (m f : ℕ) → m < 18446744073709551616 → f ≤ 1000000 → m * f ≤ 18446744073709551616000000
product_low m f hm hf = let h : m ≤ 18446744073709551616 = omega arith in omega (arith, mul-le-mul h hf)

-- a quotient is 0 where nothing divides
pub quotient_is : (r : Option ℕ) (n k : ℕ) → SomeIff r (0 < k) (n / k) → unwrap_or r 0 ≡ n / k
quotient_is None n k none = let e : k ≡ 0 = search rules in rw e (sym (div-zero n))
quotient_is (Some q) n k some = search rules

module _ (packages : List Weighed) (n margins weights : ℕ) (en : n ≡ length packages) (em : margins ≡ total n (margin_at packages))
    (ew : weights ≡ total n (λ k. margin_at packages k * fraction_at packages k)) where
  pub total_is : weights / margins ≡ total_of packages
  unfolding total_fraction
  total_is = ap (λ (x : ℕ). x / margins) (ew ∙ ap (λ (k : ℕ). total k (λ i. margin_at packages i * fraction_at packages i)) en)
      ∙ ap (λ (x : ℕ). total (length packages) (λ i. margin_at packages i * fraction_at packages i) / x) (em ∙ ap (λ (k : ℕ). total k (margin_at packages)) en)

  pub total_low : ((k : ℕ) → k < length packages → fraction_at packages k ≤ 1000000) → weights / margins ≤ 1000000
  total_low low = omega (arith, total_is, total_fraction_bounded (length packages) (margin_at packages) (fraction_at packages) low)
