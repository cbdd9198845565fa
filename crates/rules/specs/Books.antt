-- A book of bids, and what each bid is given of some parts.
use Rattle.std.specs.Prelude.{ℕ, ◌-◌, ◌<◌, ◌≤◌, min, Bool, ℤ, pos, ◌*ℤ◌, ◌≤ℤ◌, int_lt}
use Rattle.std.specs.Ordering.{is_eq, int_cmp}
use Rattle.shares.specs.Sums.{total}
use Rattle.shares.specs.Shares.{share}
use Rattle.rules.specs.Amounts.{when, total_z}

-- bids are numbered from 0; one that is not a market bid has the size 0
pub record Book : Type 0 where
  pub count : ℕ
  pub price : ℕ → ℤ
  pub size : ℕ → ℕ

-- no bid has a higher price than one in front of it
abbrev pub Ranked : Book → Type 0
Ranked b = (i j : ℕ) → i ≤ j → j < b.count → b.price j ≤ℤ b.price i

-- the sizes of all bids together
abbrev pub in_all : Book → ℕ
in_all b = total b.count b.size

-- ---- price levels

-- the size of bid j if its price is above p
abbrev pub higher : Book → (p : ℤ) → ℕ → ℕ
higher b p j = when (int_lt p (b.price j)) (b.size j)

-- the sizes of all bids above the price p
abbrev pub above : Book → (p : ℤ) → ℕ
above b p = total b.count (higher b p)

-- two prices are one level
abbrev pub same_price : ℤ → ℤ → Bool
same_price p q = is_eq (int_cmp p q)

-- the size of bid j if its price is p
abbrev pub alongside : Book → (p : ℤ) → ℕ → ℕ
alongside b p j = when (same_price (b.price j) p) (b.size j)

-- the size of the price level p
abbrev pub level : Book → (p : ℤ) → ℕ
level b p = total b.count (alongside b p)

-- ---- givings

-- what the level p takes of n parts: its size, or what the levels above it leave
abbrev pub taken : Book → (n : ℕ) → (p : ℤ) → ℕ
taken b n p = min (level b p) (n - above b p)

-- what bid i is given of n parts: its running share of what its level takes, on the level's size.
-- So a level that fits is given whole, and one to which nothing is left gets nothing
unfoldable pub giving : Book → (n : ℕ) → ℕ → ℕ
giving b n i = share (taken b n (b.price i)) (level b (b.price i)) (alongside b (b.price i)) i

-- g gives no bid more than its size
abbrev pub Within : Book → (g : ℕ → ℕ) → Type 0
Within b g = (i : ℕ) → i < b.count → g i ≤ b.size i

-- what a giving is worth: its parts at the bids' own prices
abbrev pub worth : Book → (g : ℕ → ℕ) → ℤ
worth b g = total_z b.count (λ i. pos (g i) *ℤ b.price i)
