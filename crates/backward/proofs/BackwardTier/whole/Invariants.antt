use Rattle.std.proofs.Common.{◌≡◌, min}
use Rattle.shares.specs.Sums.{total}
use Rattle.backward.specs.Accounts.{left_of}
use Rattle.backward.proofs.BackwardTier.whole.Given as goal

abbrev pub invariant-loop-account : goal.invariant-loop-account
invariant-loop-account l = l.all ≡ min (total l.account-index (left_of l.self.accounts)) 18446744073709551615
