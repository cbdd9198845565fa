use Rattle.callfile.proofs.Steps.{place_moves}
use Rattle.callfile.proofs.laws.place_moves.Goals as goal

pub returns : goal.returns
returns c = place_moves
