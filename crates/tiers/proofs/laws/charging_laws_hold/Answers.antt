use Rattle.tiers.proofs.Rules.{in_turn_lawful, pro_rata_lawful, in_turn_order}
use Rattle.tiers.proofs.laws.charging_laws_hold.Goals as goal

pub returns : goal.returns
returns c =
    record {
      in_turn_within = in_turn_lawful.within;
      in_turn_whole = in_turn_lawful.whole;
      in_turn_order = in_turn_order;
      pro_rata_within = pro_rata_lawful.within;
      pro_rata_whole = pro_rata_lawful.whole;
    }
