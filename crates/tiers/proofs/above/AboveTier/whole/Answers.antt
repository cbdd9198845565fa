use Rattle.std.proofs.Common.{arith}
use Rattle.shares.proofs.Totals.{total_plus}
use Rattle.tiers.specs.Piles.{left_at}
use Rattle.tiers.proofs.above.AboveTier.whole.Goals as goal

pub returns : goal.returns
returns g c =
    let upper = left_at (g.U.Tier.meaning c.args.self.now.upper) in
    let lower = left_at (g.L.Tier.meaning c.args.self.now.lower) in
    omega (arith, total_plus 64 upper lower)
