use Rattle.std.proofs.Common.{arith}
use Rattle.shares.specs.Sums.{at}
use Rattle.shares.proofs.Totals.{total_same, total_bound}
use Rattle.tiers.specs.Tables.{account_at, left_of}
use Rattle.tiers.proofs.accounts.Accounts.left.Goals as goal

pub returns-clause-each : goal.returns-clause-each
returns-clause-each c = λ a h. c.loop-a.invariant.1 a (omega arith)

pub returns-clause-sum : goal.returns-clause-sum
returns-clause-sum c = total_same 64 (at c.loop-a.left) (left_of c.args.self.now.each) (returns-clause-each c)

pub returns-clause-small : goal.returns-clause-small
returns-clause-small c =
    let each = c.args.self.now.each in
    omega (arith, returns-clause-sum c, total_bound 64 10000000000 (left_of each) (λ a h. omega (arith, (account_at each a).limited)))
