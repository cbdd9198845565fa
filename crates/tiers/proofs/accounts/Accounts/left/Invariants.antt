use Rattle.std.proofs.Common.{◌≡◌, ℕ, ◌<◌, length}
use Rattle.shares.specs.Sums.{at}
use Rattle.tiers.specs.Tables.{left_of}
use Rattle.tiers.proofs.accounts.Accounts.left.Given as goal

abbrev pub invariant-loop-a : goal.invariant-loop-a
invariant-loop-a l = (length l.left ≡ 64) × ((k : ℕ) → k < l.a → at l.left k ≡ left_of l.self.each k)
