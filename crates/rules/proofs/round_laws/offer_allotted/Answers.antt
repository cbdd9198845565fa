use Rattle.rules.proofs.Dividing.{offer_allotted}
use Rattle.rules.proofs.round_laws.offer_allotted.Goals as goal

pub returns : goal.returns
returns c = offer_allotted
