use Rattle.callfile.proofs.Readings.{reading_goes_on}
use Rattle.callfile.proofs.laws.reading_goes_on.Goals as goal

pub returns : goal.returns
returns c = reading_goes_on
