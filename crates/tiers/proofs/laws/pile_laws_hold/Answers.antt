use Rattle.std.proofs.Common.{arith}
use Rattle.tiers.proofs.Bearing.{bore}
use Rattle.tiers.proofs.Settling.{settled}
use Rattle.tiers.proofs.laws.pile_laws_hold.Goals as goal

pub returns : goal.returns
returns c = record { again = bore; waterfall = settled; told = λ a b. omega arith }
