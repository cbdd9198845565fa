use lib.ListN.{get_or-replicate}
use Rattle.tiers.proofs.tier.nothing.Goals as goal

pub returns-clause-each : goal.returns-clause-each
returns-clause-each c = λ a h. get_or-replicate 64 a 0 0 h
