use Rattle.std.proofs.Common.{◌≡◌, ℕ, ◌<◌, length}
use Rattle.shares.specs.Sums.{at}
use Rattle.rules.specs.Amounts.{signed_as}
use Rattle.auction.specs.Rows.{at_z}
use Rattle.auction.proofs.transfers.transfers.Given as goal

abbrev pub invariant-loop-a : goal.invariant-loop-a
invariant-loop-a l = (length l.row ≡ 64) × ((k : ℕ) → k < l.a → at_z l.row k ≡ signed_as l.price (at l.size-items k))
