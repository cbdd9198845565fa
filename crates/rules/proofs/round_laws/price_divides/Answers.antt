use Rattle.rules.proofs.Clearing.{price_divides}
use Rattle.rules.proofs.round_laws.price_divides.Goals as goal

pub returns : goal.returns
returns c = price_divides
