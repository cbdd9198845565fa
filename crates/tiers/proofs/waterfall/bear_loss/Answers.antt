use Rattle.tiers.proofs.Settling.{settled}
use Rattle.tiers.proofs.waterfall.bear_loss.Goals as goal

pub returns-clause-settled : goal.returns-clause-settled
returns-clause-settled g c = settled _ _ _ _ c.bear.ensures
