use Rattle.rules.proofs.Shortness.{no_shortfall_no_fraction}
use Rattle.rules.proofs.fraction_laws.no_shortfall_no_fraction.Goals as goal

pub returns : goal.returns
returns c = no_shortfall_no_fraction
