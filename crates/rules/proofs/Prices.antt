-- Prices compared, and the sizes that stand above a price or at it.
use Rattle.std.proofs.Common.{◌≡◌, ℕ, ◌+◌, ◌≤◌, false, ◌⊎◌, ℤ, ◌≤ℤ◌, ◌<ℤ◌, arith}
use lib.Signed.{lt_z}
use borrow.Author.Differences.{ints}
use Rattle.std.specs.Ordering.{is_gt, int_cmp}
use Rattle.rules.specs.Amounts.{when}
use Rattle.rules.specs.Books.{same_price}

-- above q is above p or at p, if nothing stands between the two
pub above_next : (p q z : ℤ) (s : ℕ) → q <ℤ p → (z ≤ℤ q) ⊎ (p ≤ℤ z) → when (lt_z q z) s ≡ when (lt_z p z) s + when (same_price z p) s
above_next p q z s h k = grind (arith, ints)

-- with none below p, all stand above p or at p
pub above_lowest : (p z : ℤ) (s : ℕ) → p ≤ℤ z → s ≡ when (lt_z p z) s + when (same_price z p) s
above_lowest p z s h = grind (arith, ints)

-- above p are those above a higher price and those at it
pub above_both : (p q z : ℤ) (s : ℕ) → p <ℤ q → when (lt_z q z) s + when (same_price z q) s ≤ when (lt_z p z) s
above_both p q z s h = grind (arith, ints)

pub above_none : (p z : ℤ) (s : ℕ) → z ≤ℤ p → when (lt_z p z) s ≡ 0
above_none p z s h = grind (arith, ints)

pub level_lower : (p z : ℤ) (s : ℕ) → z <ℤ p → when (same_price z p) s ≡ 0
level_lower p z s h = grind (arith, ints)

pub level-higher : (p z : ℤ) (s : ℕ) → p <ℤ z → when (same_price z p) s ≡ 0
level-higher p z s h = grind (arith, ints)

pub level_own : (p : ℤ) (s : ℕ) → when (same_price p p) s ≡ s
level_own p s = grind (arith, ints)

pub same_level : (p q : ℤ) → p ≤ℤ q → q ≤ℤ p → p ≡ q
same_level p q h k = omega (arith, ints)

pub not_higher : (p q : ℤ) → is_gt (int_cmp p q) ≡ false → p ≤ℤ q
not_higher p q h = grind (arith, ints)

pub le-lt : (p q r : ℤ) → p ≤ℤ q → q <ℤ r → p <ℤ r
le-lt p q r h k = omega (arith, ints)

pub lt-le : (p q r : ℤ) → p <ℤ q → q ≤ℤ r → p <ℤ r
lt-le p q r h k = omega (arith, ints)
