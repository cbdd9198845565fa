use Rattle.callfile.proofs.Backs.{reads_back}
use Rattle.callfile.proofs.Onlys.{reads_only}
use Rattle.callfile.proofs.laws.calls_read_back.Goals as goal

pub returns : goal.returns
returns c = record { back = reads_back; only = reads_only }
