use Rattle.tiers.proofs.Owning.{own_pile_bears, own_charge_is, juniors_first}
use Rattle.tiers.proofs.laws.own_pile_laws_hold.Goals as goal

pub returns : goal.returns
returns c = record { bears = own_pile_bears; charge = own_charge_is; juniors_first = juniors_first }
