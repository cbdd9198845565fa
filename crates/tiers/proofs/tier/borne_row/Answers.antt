use Rattle.std.proofs.Common.{arith}
use Rattle.tiers.proofs.tier.borne_row.Goals as goal

pub returns-clause-each : goal.returns-clause-each
returns-clause-each g c = λ a h. let w = c.row_of.ensures.shows a h in grind (arith, w)
