use Rattle.std.proofs.Common.{◌≡◌, ℕ, ◌<◌, ◌≤◌, length}
use Rattle.shares.specs.Sums.{at}
use Rattle.tiers.specs.Tables.{capacity_of, borne_of}
use Rattle.tiers.proofs.accounts.Accounts.new.Given as goal

abbrev pub invariant-loop-a : goal.invariant-loop-a
invariant-loop-a l =
    (length l.account-items ≡ 64)
    × ((k : ℕ) → k < l.a → (at l.fn.capacity k ≤ l.limit) × (capacity_of l.account-items k ≡ at l.fn.capacity k) × (borne_of l.account-items k ≡ 0))
