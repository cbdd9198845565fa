use Rattle.rules.proofs.Transfers.{transfers_add_up}
use Rattle.rules.proofs.round_laws.transfers_add_up.Goals as goal

pub returns : goal.returns
returns c = transfers_add_up
