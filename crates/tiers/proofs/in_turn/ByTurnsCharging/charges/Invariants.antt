use Rattle.std.proofs.Common.{◌≡◌, ℕ, ◌-◌, ◌<◌, length}
use Rattle.shares.specs.Sums.{total, at}
use Rattle.tiers.specs.Charging.{in_turn}
use Rattle.tiers.proofs.in_turn.ByTurnsCharging.charges.Given as goal

abbrev pub invariant-loop-a : goal.invariant-loop-a
invariant-loop-a l =
    (length l.charges ≡ 64)
    × (l.rest ≡ l.amount - total l.a (at l.left))
    × ((k : ℕ) → k < l.a → at l.charges k ≡ in_turn (at l.left) l.amount k)
