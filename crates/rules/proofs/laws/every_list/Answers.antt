use Rattle.rules.proofs.EveryList.{every_list}
use Rattle.rules.proofs.laws.every_list.Goals as goal

pub returns : goal.returns
returns c = every_list
