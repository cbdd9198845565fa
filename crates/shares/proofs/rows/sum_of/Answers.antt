use Rattle.std.proofs.Common.{◌≡◌, ◌^◌, ◌<◌, sum, rules, ◌∙◌, arith}
use Rattle.std.proofs.iter.runs.Made.{chains}
use Rattle.shares.proofs.Sums.{sum_of_row}
use Rattle.shares.proofs.rows.sum_of.Goals as goal

pub sum-requires-clause-fits : goal.sum-requires-clause-fits
sum-requires-clause-fits c =
    let fits : sum c.args.row.now < 2 ^ 64 = omega (arith, sum_of_row c.args.row.now 64 c.told-row) in search (rules, chains)

pub returns : goal.returns
returns c =
    let sums : c.sum.result ≡ sum c.args.row.now = search (rules, chains) in sums ∙ sum_of_row c.args.row.now 64 c.told-row
