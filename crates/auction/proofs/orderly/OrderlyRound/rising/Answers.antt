use Rattle.std.proofs.Common.{◌==◌, rules}
use Rattle.shares.specs.Sums.{at}
use Rattle.rules.specs.Amounts.{when}
use Rattle.auction.specs.Rows.{Row}
use Rattle.auction.proofs.Showing.{row_low}
use Rattle.auction.proofs.Summing.{when_low}
use Rattle.auction.proofs.orderly.OrderlyRound.rising.Goals as goal

pub returns : goal.returns
returns c =
    let is : Row c.args.self.now.round.members (λ a. when (at c.args.credits.now a == 0) (at c.args.self.now.round.minimums a)) c.row_of.result =
    record { shows = λ a h. let s = c.row_of.ensures.shows a h in search rules; blank = c.row_of.ensures.blank } in
    record { is = is; low = row_low _ _ _ is (λ a h. when_low _ _ _ (c.args.self.now.orderly.low a h)) 64 }
