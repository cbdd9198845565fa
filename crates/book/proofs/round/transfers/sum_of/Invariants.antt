use Rattle.std.proofs.Common.{◌≡◌, ◌*◌, ◌≤◌, nat_abs}
use Rattle.rules.specs.Amounts.{total_z}
use Rattle.auction.specs.Rows.{at_z}
use Rattle.book.proofs.round.transfers.sum_of.Given as goal

abbrev pub invariant-loop-number : goal.invariant-loop-number
invariant-loop-number l = (l.sum ≡ total_z l.number-index (at_z l.row)) × (nat_abs l.sum ≤ 9223372036854775808 * l.number-index)
