use Rattle.rules.proofs.Covering.{minimums_cover}
use Rattle.rules.proofs.Credits.{second_minimums_cover}
use Rattle.rules.proofs.round_laws.minimums_cover.Goals as goal

pub returns : goal.returns
returns c = record { first = minimums_cover; second = second_minimums_cover }
