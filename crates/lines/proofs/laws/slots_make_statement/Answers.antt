use Rattle.lines.proofs.Slotting.{slots_are_statement}
use Rattle.lines.proofs.laws.slots_make_statement.Goals as goal

pub returns : goal.returns
returns c = slots_are_statement
