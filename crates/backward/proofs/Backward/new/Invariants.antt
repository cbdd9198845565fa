use Rattle.std.proofs.Common.{◌≡◌, ℕ, ◌<◌, length}
use Rattle.shares.specs.Sums.{at}
use Rattle.backward.specs.Accounts.{left_of, borne_of}
use Rattle.backward.proofs.Backward.new.Given as goal

abbrev pub invariant-loop-a : goal.invariant-loop-a
invariant-loop-a l =
    (length l.account-items ≡ 64)
    × ((k : ℕ) → k < l.a → (left_of l.account-items k ≡ at l.fn.left k) × (borne_of l.account-items k ≡ 0))
