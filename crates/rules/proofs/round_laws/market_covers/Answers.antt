use Rattle.rules.proofs.Dividing.{market_covers}
use Rattle.rules.proofs.round_laws.market_covers.Goals as goal

pub returns : goal.returns
returns c = market_covers
