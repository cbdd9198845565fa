use Rattle.std.proofs.Common.{◌+◌, length, sym, arith}
use Rattle.std.proofs.lemmas.Bool.{lt-leb}
use Rattle.shares.specs.Sums.{at}
use Rattle.shares.proofs.Totals.{total_none, total_more, total_grows}
use Rattle.shares.proofs.within.Goals as goal

pub loop-weight-init : goal.loop-weight-init
loop-weight-init c = omega (arith, total_none (at c.args.weights.now))

pub returns-then-rest-weight : goal.returns-then-rest-weight
returns-then-rest-weight c =
    let ws = c.args.weights.now in
    let i = c.loop-weight.weight-index in
    sym (lt-leb _ _ (omega (arith, total_more i (at ws), total_grows (i + 1) (length ws) (at ws) (omega arith))))

pub loop-weight-preserved : goal.loop-weight-preserved
loop-weight-preserved c = omega (arith, total_more c.loop-weight.weight-index (at c.args.weights.now))
