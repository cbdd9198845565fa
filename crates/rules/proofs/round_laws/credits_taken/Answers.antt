use Rattle.rules.proofs.Credits.{credits-taken}
use Rattle.rules.proofs.round_laws.credits_taken.Goals as goal

pub returns : goal.returns
returns c = credits-taken
