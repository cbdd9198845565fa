use Rattle.callfile.proofs.Faults.{tells_cut, tells_unknown, tells_length}
use Rattle.callfile.proofs.laws.faults_are_told.Goals as goal

pub returns : goal.returns
returns c = record { cut = tells_cut; unknown = tells_unknown; wrong_length = tells_length }
