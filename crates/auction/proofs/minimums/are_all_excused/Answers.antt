use Rattle.std.proofs.Common.{sym, arith}
use Rattle.auction.proofs.Asking.{all_more, all_not}
use Rattle.auction.proofs.minimums.are_all_excused.Goals as goal

pub returns-then-not-is_excused : goal.returns-then-not-is_excused
returns-then-not-is_excused c =
    sym (all_not c.args.excused c.loop-a.a c.args.count (sym c.if-not-is_excused.ensures) (omega arith))

pub loop-a-preserved : goal.loop-a-preserved
loop-a-preserved c = all_more c.args.excused c.loop-a.a (sym c.if-not-is_excused.ensures) c.loop-a.invariant
