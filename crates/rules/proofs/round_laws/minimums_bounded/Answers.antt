use Rattle.rules.proofs.Covering.{minimums_bounded}
use Rattle.rules.proofs.Credits.{second_minimums_bounded}
use Rattle.rules.proofs.round_laws.minimums_bounded.Goals as goal

pub returns : goal.returns
returns c = record { first = minimums_bounded; second = second_minimums_bounded }
