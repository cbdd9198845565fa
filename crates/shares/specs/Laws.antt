-- The laws of running shares. None of them says how an amount is rounded.
use Rattle.std.specs.Prelude.{◌≡◌, ℕ, ◌+◌, ◌<◌, ◌≤◌}
use Rattle.shares.specs.Sums.{total}
use Rattle.shares.specs.Shares.{dealt, share}

-- Nothing goes to no weights.
abbrev pub DealtNone : Type 0
DealtNone = (amount base : ℕ) → dealt amount base 0 ≡ 0

-- What goes to the first weights does not fall as their sum rises.
abbrev pub DealtRises : Type 0
DealtRises = (amount base low high : ℕ) → low ≤ high → dealt amount base low ≤ dealt amount base high

-- Weights within the base get no more than the amount.
abbrev pub DealtWithin : Type 0
DealtWithin = (amount base sum : ℕ) → sum ≤ base → dealt amount base sum ≤ amount

-- Weights that sum to the whole base get the whole amount.
abbrev pub DealtWhole : Type 0
DealtWhole = (amount base : ℕ) → 0 < base → dealt amount base base ≡ amount

-- Where the amount is the base, weights get their sum.
abbrev pub DealtOfBase : Type 0
DealtOfBase = (base sum : ℕ) → 0 < base → dealt base base sum ≡ sum

-- A share is what its weight adds to what goes to those before it. So none is below 0.
abbrev pub ShareAdds : Type 0
ShareAdds =
    (amount base : ℕ) (w : ℕ → ℕ) (a : ℕ) → dealt amount base (total a w) + share amount base w a ≡ dealt amount base (total (a + 1) w)

-- The shares of the first n weights add up to what goes to their sum.
abbrev pub SharesAddUp : Type 0
SharesAddUp = (amount base : ℕ) (w : ℕ → ℕ) (n : ℕ) → total n (share amount base w) ≡ dealt amount base (total n w)

-- The shares of weights that total a base above 0 add up to the amount.
abbrev pub SharesWhole : Type 0
SharesWhole = (amount base : ℕ) (w : ℕ → ℕ) (n : ℕ) → 0 < base → total n w ≡ base → total n (share amount base w) ≡ amount

-- No share passes its weight where the amount is at most the base.
abbrev pub ShareWithin : Type 0
ShareWithin = (amount base : ℕ) (w : ℕ → ℕ) (a : ℕ) → amount ≤ base → share amount base w a ≤ w a

-- On base 0 every share is 0.
abbrev pub ShareBaseless : Type 0
ShareBaseless = (amount : ℕ) (w : ℕ → ℕ) (a : ℕ) → share amount 0 w a ≡ 0

-- A weight of 0 gets 0.
abbrev pub ShareWeightless : Type 0
ShareWeightless = (amount base : ℕ) (w : ℕ → ℕ) (a : ℕ) → w a ≡ 0 → share amount base w a ≡ 0

-- Of an amount of 0 every share is 0.
abbrev pub ShareOfNone : Type 0
ShareOfNone = (base : ℕ) (w : ℕ → ℕ) (a : ℕ) → share 0 base w a ≡ 0

-- Where the amount is the base, the share of a weight within it is the weight.
abbrev pub ShareOfBase : Type 0
ShareOfBase = (base : ℕ) (w : ℕ → ℕ) (a : ℕ) → w a ≤ base → share base base w a ≡ w a

-- A share looks at no weight past its own.
abbrev pub ShareSame : Type 0
ShareSame =
    (amount base : ℕ) (v w : ℕ → ℕ) (n : ℕ) → ((k : ℕ) → k < n → v k ≡ w k) →
    (a : ℕ) → a < n → share amount base v a ≡ share amount base w a
