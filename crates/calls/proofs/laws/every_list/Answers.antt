use Rattle.calls.proofs.EveryList.{every_list}
use Rattle.calls.proofs.laws.every_list.Goals as goal

pub returns : goal.returns
returns c = every_list
