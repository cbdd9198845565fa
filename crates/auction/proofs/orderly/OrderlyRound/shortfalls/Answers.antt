use Rattle.std.proofs.Common.{refl, arith, rules}
use Rattle.rules.specs.Rounds.{shortfall}
use Rattle.rules.proofs.Dividing.{shortfall_within}
use Rattle.auction.specs.Rows.{Row}
use Rattle.auction.specs.Ruled.{ruled_orderly}
use Rattle.auction.proofs.Composing.{lack_is}
use Rattle.auction.proofs.orderly.OrderlyRound.shortfalls.Goals as goal

pub returns : goal.returns
returns c =
    let is : Row c.args.self.now.round.members (shortfall (ruled_orderly c.args.self.now)) c.row_of.result =
    record { shows = λ a h. let s = c.row_of.ensures.shows a h in lack_is c.args.self.now a _ _ refl (search rules); blank = c.row_of.ensures.blank } in
    record { is = is; low = λ a h. omega (arith, is.shows a h, shortfall_within (ruled_orderly c.args.self.now) a, c.args.self.now.orderly.low a h) }
