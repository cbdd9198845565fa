use Rattle.std.proofs.Common.{[], sym, arith}
use Rattle.shares.proofs.Totals.{total_none, total_more}
use Rattle.rules.specs.declared.member.Member.{Member}
use Rattle.rules.specs.Minimums.{counted}
use Rattle.auction.proofs.Asking.{counted_is, read_low}
use Rattle.auction.proofs.minimums.sum_counted.Goals as goal

-- what is read past the end of the members
abbrev past : Member
past = record { name = record { bytes = [] }; contribution = 0 }

pub loop-a-init : goal.loop-a-init
loop-a-init c = (sym (total_none (counted c.args.members.now c.args.excused)), omega arith)

pub overflow_add-sum : goal.overflow_add-sum
overflow_add-sum c = omega (arith, c.counted_of-sum.ensures.small, read_low c.args.members.now c.loop-a.a past c.requires.contributing (omega arith))

pub loop-a-preserved : goal.loop-a-preserved
loop-a-preserved c = (
  omega (arith, total_more c.loop-a.a (counted c.args.members.now c.args.excused), c.counted_of-sum.ensures.is, counted_is c.args.members.now c.args.excused c.loop-a.a past (omega arith)),
  omega (arith, c.counted_of-sum.ensures.small, read_low c.args.members.now c.loop-a.a past c.requires.contributing (omega arith)),
)
