use Rattle.rules.proofs.Marks.{market_by_price}
use Rattle.rules.proofs.round_laws.market_by_price.Goals as goal

pub returns : goal.returns
returns c = market_by_price
