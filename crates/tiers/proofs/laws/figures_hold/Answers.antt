use Rattle.std.proofs.Common.{refl}
use Rattle.shares.specs.Sums.{total}
use Rattle.shares.specs.Shares.{dealt, share}
use Rattle.tiers.proofs.laws.figures_hold.Goals as goal

pub returns : goal.returns
unfolding total dealt share
returns c =
    record {
      charges = record {
        account_0 = refl;
        account_1 = refl;
        account_2 = refl;
        account_60 = refl;
        account_61 = refl;
        account_62 = refl;
        none_unborne = refl;
      };
      by_tier = record {
        cash = refl;
        pledges = refl;
        past_estate = refl;
        own_share = refl;
        past_own_share = refl;
        junior_2 = refl;
        past_juniors = refl;
        senior_0 = refl;
        senior_1 = refl;
        senior_2 = refl;
      };
      edge = record { borne = refl; one_left = refl };
    }
