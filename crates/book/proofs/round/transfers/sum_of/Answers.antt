use Rattle.std.proofs.Common.{rules}
use Rattle.auction.specs.Rows.{at_z}
use Rattle.book.proofs.Transferred.{total_z_none, total_z_more}
use Rattle.book.proofs.round.transfers.sum_of.Goals as goal

pub loop-number-init : goal.loop-number-init
loop-number-init c = let h = total_z_none (at_z c.args.row.now) in search rules

pub loop-number-preserved : goal.loop-number-preserved
loop-number-preserved c = let h = total_z_more c.loop-number.number-index (at_z c.args.row.now) in search rules
