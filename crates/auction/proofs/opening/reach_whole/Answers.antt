use Rattle.std.proofs.Common.{◌≡◌, ◌<◌, ◌≤◌, length, refl, sum, ◌∙◌, arith, rules}
use Rattle.shares.specs.Sums.{at, total}
use Rattle.shares.proofs.Sums.{sum_of_row}
use Rattle.auction.specs.Rows.{Low}
use Rattle.auction.proofs.Summing.{sum_low}
use Rattle.auction.proofs.opening.reach_whole.Goals as goal

pub sum-requires-clause-fits : goal.sum-requires-clause-fits
sum-requires-clause-fits c =
    let low : Low (length c.args.minimums.now) c.args.minimums.now = c.are_low.ensures.yes c.if-are_low.true in
    let fits : sum c.args.minimums.now < 18446744073709551616 = omega (arith, c.requires, sum_low (length c.args.minimums.now) c.args.minimums.now refl low) in
    search rules

pub returns-then-are_low : goal.returns-then-are_low
returns-then-are_low c =
    let low : Low (length c.args.minimums.now) c.args.minimums.now = c.are_low.ensures.yes c.if-are_low.true in
    let read : c.sum.result ≡ sum c.args.minimums.now = search rules in
    let is : c.sum.result ≡ total (length c.args.minimums.now) (at c.args.minimums.now) = read ∙ sum_of_row c.args.minimums.now (length c.args.minimums.now) refl in
    record {
      yes = λ e. let h : 1000000 ≤ c.sum.result = search rules in (low, omega arith);
      not = λ e _ reach. let h : c.sum.result < 1000000 = search rules in absurd (omega arith);
    }
