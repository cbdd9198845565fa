use Rattle.std.proofs.Common.{◌∙◌, arith, length-set}
use Rattle.shares.specs.Sums.{at}
use Rattle.shares.proofs.Totals.{total_none, total_more}
use Rattle.shares.proofs.Writing.{row_more}
use Rattle.tiers.specs.Charging.{in_turn}
use Rattle.tiers.proofs.in_turn.ByTurnsCharging.charges.Goals as goal

pub loop-a-init : goal.loop-a-init
loop-a-init c = (omega arith, omega (arith, total_none (at c.args.left.now)), λ k h. omega arith)

pub loop-a-preserved : goal.loop-a-preserved
loop-a-preserved c =
    let left = at c.args.left.now in
    let a = c.loop-a.a in (
      length-set _ _ _ ∙ c.loop-a.invariant.0,
      omega (arith, total_more a left),
      row_more (in_turn left c.args.amount) c.loop-a.charges a c.min-charge.result (omega arith) (omega arith) c.loop-a.invariant.2,
    )
