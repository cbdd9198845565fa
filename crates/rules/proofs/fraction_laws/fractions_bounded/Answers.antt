use Rattle.rules.proofs.Shortness.{fractions_bounded}
use Rattle.rules.proofs.fraction_laws.fractions_bounded.Goals as goal

pub returns : goal.returns
returns c = fractions_bounded
