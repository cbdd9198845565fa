use Rattle.rules.proofs.Marks.{mark_reached}
use Rattle.rules.proofs.round_laws.mark_reached.Goals as goal

pub returns : goal.returns
returns c = mark_reached
