use Rattle.std.proofs.Common.{◌≡◌, ◌+◌}
use Rattle.shares.specs.Sums.{total, at}
use Rattle.shares.proofs.within.Given as goal

abbrev pub invariant-loop-weight : goal.invariant-loop-weight
invariant-loop-weight l = l.rest + total l.weight-index (at l.weights) ≡ l.base
