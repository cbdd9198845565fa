use Rattle.callfile.proofs.Fronts.{front-found, front_cut}
use Rattle.callfile.proofs.laws.fields_are_found.Goals as goal

pub returns : goal.returns
returns c = record { found = front-found; cut = front_cut }
