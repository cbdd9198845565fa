use Rattle.std.proofs.Common.{◌≡◌, ℕ, ◌<◌, Some, length, slice_index_or}
use Rattle.tiers.specs.Piles.{Tells}
use Rattle.bearing.specs.Example.{untold}
use Rattle.bearing.proofs.told_accounts.Given as goal

abbrev pub invariant-loop-a : goal.invariant-loop-a
invariant-loop-a g l =
    (length l.account-items ≡ 64)
    × ((k : ℕ) → k < l.a → Tells (g.P.Tier.meaning l.pile) k (Some (slice_index_or l.account-items k untold)))
