use Rattle.std.proofs.Common.{◌≡◌, ◌*◌, ◌≤◌}
use Rattle.shares.specs.Sums.{total}
use Rattle.rules.specs.Minimums.{counted}
use Rattle.auction.proofs.minimums.sum_counted.Given as goal

abbrev pub invariant-loop-a : goal.invariant-loop-a
invariant-loop-a l = (l.sum ≡ total l.a (counted l.members l.excused)) × (l.sum ≤ 25000000 * l.a)
