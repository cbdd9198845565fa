use Rattle.std.proofs.Common.{◌≡◌, ◌+◌, ap, arith}
use Rattle.shares.specs.Shares.{dealt}
use Rattle.shares.proofs.Sharing.{dealt_rises, dealt-step, share-behind}
use Rattle.shares.proofs.share.Goals as goal

-- The sum with the weight.
sum_is : (c : goal.After-dealt_to-2) → c.in_ok-after.after ≡ c.args.before + c.args.weight
sum_is c = c.in_ok-after.ensures.1

pub overflow_sub-result : goal.overflow_sub-result
overflow_sub-result c =
    let after = c.in_ok-after.after in
    omega (arith, dealt_rises c.args.amount c.args.base c.args.before after (omega (arith, sum_is c)))

pub returns : goal.returns
returns c =
    let after = c.in_ok-after.after in
    let sum : after ≡ c.args.before + c.args.weight = sum_is c in
    let same : dealt c.args.amount c.args.base after ≡ dealt c.args.amount c.args.base (c.args.before + c.args.weight) =
    ap (dealt c.args.amount c.args.base) sum in
    let rises = dealt_rises c.args.amount c.args.base c.args.before after (omega arith) in
    record {
      fits = omega arith;
      is = λ w a before weight. omega (arith, share-behind c.args.amount c.args.base c.args.before c.args.weight w a before weight);
      adds = omega arith;
      low = λ small. omega (arith, dealt-step c.args.amount c.args.base c.args.before c.args.weight small);
    }
