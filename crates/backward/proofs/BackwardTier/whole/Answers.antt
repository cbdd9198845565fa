use Rattle.std.proofs.Common.{arith, ap}
use Rattle.std.proofs.lemmas.List.{get_or_default}
use Rattle.shares.proofs.Totals.{total_none, total_more}
use Rattle.backward.specs.Accounts.{no_account, left_of}
use Rattle.backward.specs.declared.Account.{Account}
use Rattle.backward.proofs.BackwardTier.whole.Goals as goal

pub loop-account-init : goal.loop-account-init
loop-account-init c = omega (arith, total_none (left_of c.args.self.now.accounts))

pub loop-account-preserved : goal.loop-account-preserved
loop-account-preserved c =
    let accounts = c.args.self.now.accounts in
    let a = c.loop-account.account-index in
    let here = get_or_default accounts a c.account-item.result no_account (omega arith) in
    omega (arith, total_more a (left_of accounts), ap (λ (y : Account). y.left) here)
