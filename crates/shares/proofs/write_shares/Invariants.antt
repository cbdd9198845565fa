use Rattle.std.proofs.Common.{◌≡◌, ℕ, ◌<◌, ◌≤◌}
use Rattle.shares.specs.Sums.{total, at}
use Rattle.shares.specs.Shares.{dealt, share}
use Rattle.shares.proofs.write_shares.Given as goal

abbrev pub invariant-loop-i : goal.invariant-loop-i
invariant-loop-i l =
    (l.before ≡ total l.i (at l.weights))
    × (l.given ≡ dealt l.amount l.base l.before)
    × ((a : ℕ) → a < l.i → at l.shares a ≡ share l.amount l.base (at l.weights) a)
    × ((a : ℕ) → l.i ≤ a → at l.shares a ≡ at l.initial.shares a)
