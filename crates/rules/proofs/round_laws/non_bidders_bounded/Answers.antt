use Rattle.rules.proofs.Dividing.{non_bidders}
use Rattle.rules.proofs.round_laws.non_bidders_bounded.Goals as goal

pub returns : goal.returns
returns c = non_bidders
