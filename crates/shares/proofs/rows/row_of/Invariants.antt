use Rattle.std.proofs.Common.{◌≡◌, ℕ, ◌<◌, ◌≤◌, length}
use Rattle.shares.specs.Sums.{at}
use Rattle.shares.proofs.rows.row_of.Given as goal

abbrev pub invariant-loop-a : goal.invariant-loop-a
invariant-loop-a g l =
    (length l.row ≡ g.row.N)
    × ((a : ℕ) → a < l.a → g.F.Fn.post l.f (a, tt) (at l.row a))
    × ((a : ℕ) → l.a ≤ a → at l.row a ≡ 0)
