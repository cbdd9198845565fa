use Rattle.rules.proofs.Clearing.{levels_in_turn}
use Rattle.rules.proofs.round_laws.levels_in_turn.Goals as goal

pub returns : goal.returns
returns c = levels_in_turn
