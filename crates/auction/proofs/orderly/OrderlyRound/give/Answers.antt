use Rattle.std.proofs.Common.{rules}
use Rattle.auction.proofs.orderly.OrderlyRound.give.Goals as goal

pub returns : goal.returns
returns c = record {
  is = record { shows = λ a h. let s = c.row_of.ensures.shows a h in search rules; blank = c.row_of.ensures.blank };
  small = λ a h. let s = c.row_of.ensures.shows a h in search rules;
}
