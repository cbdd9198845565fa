use Rattle.std.proofs.Common.{refl}
use Rattle.shares.specs.Sums.{total}
use Rattle.shares.specs.Shares.{dealt, share}
use Rattle.shares.proofs.laws.figures_hold.Goals as goal

pub returns : goal.returns
unfolding total dealt share
returns c = record { three = (refl, refl, refl); ten = (refl, refl, refl) }
