use Rattle.std.proofs.Common.{ℕ, ◌+◌, ◌-◌, ◌<◌, ◌≤◌, arith, rules}
use Rattle.shares.specs.Sums.{at}
use Rattle.auction.proofs.Raising.{raised}
use Rattle.auction.proofs.Summing.{total_low}
use Rattle.auction.proofs.Spreading.{spread_low}
use Rattle.auction.proofs.orderly.OrderlyRound.raise.Goals as goal

pub sum_of-requires : goal.sum_of-requires
sum_of-requires c = omega (arith, total_low c.credits-credits.result c.credits-credits.ensures.low)

pub sum_of-requires-2 : goal.sum_of-requires-2
sum_of-requires-2 c = omega (arith, total_low c.rising-rising.result c.rising-rising.ensures.low)

pub row_of-requires : goal.row_of-requires
row_of-requires c =
    let under : (a : ℕ) → a < c.args.self.now.round.members → at c.credits-credits.result a ≤ at c.args.self.now.round.minimums a =
    λ a h. omega (arith, c.credits-credits.ensures.is.shows a h) in
    let fits : (a : ℕ) → a < c.args.self.now.round.members → at c.args.self.now.round.minimums a - at c.credits-credits.result a + at c.shares_of-rises.result a < 18446744073709551616 =
    λ a h. let inside : a < 64 = omega (arith, c.args.self.now.orderly.seats) in omega (
      arith,
      c.args.self.now.orderly.low a h,
      c.sum_of.ensures,
      total_low c.credits-credits.result c.credits-credits.ensures.low,
      c.shares_of-rises.ensures a,
      spread_low c.sum_of.result c.sum_of-2.result 64 (at c.rising-rising.result) (omega (arith, c.sum_of-2.ensures)) a inside,
    ) in
    search rules

pub returns : goal.returns
returns c =
    raised c.args.self.now.round.members (at c.args.self.now.round.minimums) (at c.args.allotments.now) c.credits-credits.result c.rising-rising.result c.shares_of-rises.result c.row_of.result
    c.sum_of.result c.sum_of-2.result c.args.self.now.orderly.seats c.credits-credits.ensures.is c.rising-rising.ensures.is c.sum_of.ensures c.sum_of-2.ensures c.shares_of-rises.ensures
    (record { shows = λ a h. let s = c.row_of.ensures.shows a h in search rules; blank = c.row_of.ensures.blank })
