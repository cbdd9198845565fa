use Rattle.std.proofs.Common.{refl}
use Rattle.shares.specs.Sums.{total}
use Rattle.shares.specs.Shares.{dealt, share}
use Rattle.rules.specs.Minimums.{ceil, minimum_of}
use Rattle.rules.specs.Books.{giving}
use Rattle.rules.specs.Rounds.{mark, market_size, shortfall, allotment, round_price}
use Rattle.rules.specs.Residuals.{second_minimum}
use Rattle.rules.specs.Fractions.{round_fraction, total_fraction}
use Rattle.rules.proofs.figures.figures_hold.Goals as goal

pub returns : goal.returns
unfolding total dealt share ceil minimum_of giving mark market_size shortfall allotment round_price second_minimum round_fraction total_fraction
returns c =
    record {
      minimums = (refl, refl, refl);
      minimums_excused = (refl, refl, refl);
      minimums_equal = (refl, refl, refl);
      minimums_cut = (refl, refl);
      worked_mark = refl;
      worked_shortfalls = (refl, refl, refl);
      worked_allotments = (refl, refl, refl);
      worked_price = refl;
      worked_transfers = (refl, refl, refl);
      worked_fractions = (refl, refl, refl);
      worked_juniors = (refl, refl, refl);
      worked_seniors = (refl, refl, refl);
      at_margin = refl;
      at_margin_allotments = (refl, refl, refl);
      at_margin_price = refl;
      past_margin = refl;
      past_margin_allotments = (refl, refl, refl);
      past_margin_price = refl;
      cut_allotments = (refl, refl, refl);
      cut_price = refl;
      second_minimums = (refl, refl, refl);
      second_margin = refl;
      second_reference = refl;
      second_allotments = (refl, refl, refl);
      second_price = refl;
      package_fractions = (refl, refl, refl);
      second_minimums_cut = (refl, refl);
      carried_along = (refl, refl, refl);
    }
