use Rattle.std.proofs.Common.{replicate}
use Rattle.auction.proofs.Spreading.{spread}
use Rattle.auction.proofs.rows.shares_of.Goals as goal

pub returns : goal.returns
returns c =
    spread c.args.amount c.args.base c.args.weights.now (replicate 64 0) c.share_out.new.shares c.share_out.result
    c.told-weights (rw c.told-weights c.requires.within) c.share_out.ensures
