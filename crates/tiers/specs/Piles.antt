-- What a pile of tiers means, what it answers, and what bearing an amount makes of it.
use Rattle.std.specs.Prelude.{◌≡◌, ℕ, ◌+◌, ◌-◌, ◌<◌, ◌≤◌, min, Some, None, Option}
use Rattle.shares.specs.Sums.{total}
use Rattle.tiers.specs.declared.tier.Balance.{Balance}

-- One tier, by what each of its accounts 0 to 63 can still bear and what each has borne; or one pile set above another.
pub data Pile : Type 0 where
  one : (left borne : ℕ → ℕ) → Pile
  above : (upper lower : Pile) → Pile

-- What an account can still bear.
abbrev pub left_at : Pile → ℕ → ℕ
left_at (one left borne) a = left a
left_at (above upper lower) a = left_at upper a + left_at lower a

-- What an account has borne.
abbrev pub borne_at : Pile → ℕ → ℕ
borne_at (one left borne) a = borne a
borne_at (above upper lower) a = borne_at upper a + borne_at lower a

-- What is left in all.
abbrev pub left_all : Pile → ℕ
left_all p = total 64 (left_at p)

-- What is borne in all.
abbrev pub borne_all : Pile → ℕ
borne_all p = total 64 (borne_at p)

-- Two piles with the same tiers and, in each, the same amounts in accounts 0 to 63.
abbrev pub Alike : Pile → Pile → Type 0
Alike (one left borne) (one left' borne') = (a : ℕ) → a < 64 → (left a ≡ left' a) × (borne a ≡ borne' a)
Alike (one left borne) (above upper lower) = ⊥
Alike (above upper lower) (one left borne) = ⊥
Alike (above upper lower) (above upper' lower') = Alike upper upper' × Alike lower lower'

-- ---- questions

-- An amount as it is told: at most 10^15.
abbrev pub told : ℕ → ℕ
told amount = min amount 1000000000000000

-- The answer about an account: what it can still bear and what it has borne; absence past account 63.
abbrev pub Tells : Pile → ℕ → Option Balance → Type 0
Tells p a None = 64 ≤ a
Tells p a (Some balance) = (a < 64) × (balance.left ≡ told (left_at p a)) × (balance.borne ≡ told (borne_at p a))

-- ---- bearing

-- The tier p has become q by bearing what it could of x, and `back` came back. Which accounts bear is left open.
pub record Bore (p : Pile) (x : ℕ) (q : Pile) (back : ℕ) : Type 0 where
  -- no amount borne falls
  pub rises : (a : ℕ) → a < 64 → borne_at p a ≤ borne_at q a
  -- what an account can still bear falls by what its amount borne rose
  pub falls : (a : ℕ) → a < 64 → left_at q a + borne_at q a ≡ left_at p a + borne_at p a
  -- the amounts borne rise in all by the smaller of x and all that was left
  pub bears : borne_all q ≡ borne_all p + min x (left_all p)
  -- the rest comes back
  pub answers : back ≡ x - min x (left_all p)

-- The same of a pile: the upper bears first, the lower what comes back from it.
abbrev pub Bears : Pile → ℕ → Pile → ℕ → Type 0
Bears (one left borne) x (one left' borne') back = Bore (one left borne) x (one left' borne') back
Bears (one left borne) x (above upper lower) back = ⊥
Bears (above upper lower) x (one left borne) back = ⊥
Bears (above upper lower) x (above upper' lower') back = (between : ℕ) × Bears upper x upper' between × Bears lower between lower' back
