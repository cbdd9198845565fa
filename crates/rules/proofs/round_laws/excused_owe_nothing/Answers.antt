use Rattle.rules.proofs.Credits.{no_minimum_owes_nothing, excused_owes_nothing}
use Rattle.rules.proofs.round_laws.excused_owe_nothing.Goals as goal

pub returns : goal.returns
returns c = record { no_minimum = no_minimum_owes_nothing; excused = excused_owes_nothing }
