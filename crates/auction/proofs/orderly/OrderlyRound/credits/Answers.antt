use Rattle.std.proofs.Common.{arith, rules}
use Rattle.shares.specs.Sums.{at}
use Rattle.rules.specs.Residuals.{credit}
use Rattle.auction.specs.Rows.{Row}
use Rattle.auction.proofs.Showing.{row_low}
use Rattle.auction.proofs.orderly.OrderlyRound.credits.Goals as goal

pub returns : goal.returns
returns c =
    let is : Row c.args.self.now.round.members (credit (at c.args.self.now.round.minimums) (at c.args.allotments.now)) c.row_of.result =
    record { shows = λ a h. let s = c.row_of.ensures.shows a h in search rules; blank = c.row_of.ensures.blank } in
    record { is = is; low = row_low _ _ _ is (λ a h. omega (arith, c.args.self.now.orderly.low a h)) 64 }
