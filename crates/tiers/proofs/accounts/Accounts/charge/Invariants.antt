use Rattle.std.proofs.Common.{◌≡◌, ℕ, ◌+◌, ◌<◌, ◌≤◌, length}
use Rattle.shares.specs.Sums.{at}
use Rattle.tiers.specs.Tables.{account_at, borne_of, left_of}
use Rattle.tiers.proofs.accounts.Accounts.charge.Given as goal

abbrev pub invariant-loop-a : goal.invariant-loop-a
invariant-loop-a l =
    (length l.account-items ≡ 64)
    × ((k : ℕ) → k < l.a →
    (borne_of l.account-items k ≡ borne_of l.initial.account-items k + at l.charges k)
    × (left_of l.account-items k + at l.charges k ≡ left_of l.initial.account-items k))
    × ((k : ℕ) → l.a ≤ k → account_at l.account-items k ≡ account_at l.initial.account-items k)
