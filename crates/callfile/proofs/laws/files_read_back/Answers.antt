use Rattle.callfile.proofs.Files.{reads_all, reads_to_fault}
use Rattle.callfile.proofs.laws.files_read_back.Goals as goal

pub returns : goal.returns
returns c = record { all = reads_all; to_fault = reads_to_fault }
