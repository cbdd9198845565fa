use Rattle.rules.proofs.Shortness.{parts_make_contribution}
use Rattle.rules.proofs.fraction_laws.parts_make_contribution.Goals as goal

pub returns : goal.returns
returns c = parts_make_contribution
