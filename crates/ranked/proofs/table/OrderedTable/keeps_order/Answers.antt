use Rattle.ranked.proofs.Arrivals.{keeps}
use Rattle.ranked.proofs.table.OrderedTable.keeps_order.Goals as goal

pub returns : goal.returns
returns g c = keeps g.met.T.Rank.ordered
