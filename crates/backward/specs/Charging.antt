-- Which accounts bear where the last bears first.
use Rattle.std.specs.Prelude.{ℕ, ◌+◌, ◌-◌, min}
use Rattle.shares.specs.Sums.{total}
use Rattle.tiers.specs.Charging.{Rule}

-- What all accounts behind an account can still bear.
abbrev pub behind : (ℕ → ℕ) → ℕ → ℕ
behind left a = total 64 left - total (a + 1) left

-- An account bears what those behind it leave of the amount, and no more than it can.
abbrev pub last_first : Rule
last_first left amount a = min (left a) (amount - behind left a)
