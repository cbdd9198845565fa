use Rattle.std.proofs.Common.{◌≡◌, ℕ, ◌+◌, ◌-◌, subst, arith}
use Rattle.std.proofs.lemmas.List.{get_or_default}
use Rattle.tiers.proofs.Rising.{bore_by_rule}
use Rattle.backward.specs.Accounts.{no_account, left_of, borne_of, Bears}
use Rattle.backward.specs.declared.Account.{Account}
use Rattle.backward.specs.Charging.{last_first}
use Rattle.backward.proofs.Charging.{last_first_lawful, Turned, turned_more, turned_all}
use Rattle.backward.proofs.BackwardTier.bear.Goals as goal

pub loop-i-preserved : goal.loop-i-preserved
loop-i-preserved c =
    let old = c.args.self.now.accounts in
    let turn : c.loop-i.i ≡ (c.loop-i.i - 1) + 1 = omega arith in
    let here = get_or_default c.loop-i.accounts (c.loop-i.i - 1) c.index-accounts-i.result no_account (omega (arith, c.loop-i.invariant.wide)) in
    turned_more old c.args.amount (c.loop-i.i - 1) c.loop-i.accounts c.loop-i.rest c.bear-rest.new.self c.bear-rest.result (omega arith)
    (subst (λ (n : ℕ). Turned old c.args.amount n c.loop-i.accounts c.loop-i.rest) turn c.loop-i.invariant)
    (subst (λ (y : Account). Bears y c.loop-i.rest c.bear-rest.new.self c.bear-rest.result) here c.bear-rest.ensures)

pub returns-clause-bears : goal.returns-clause-bears
returns-clause-bears c =
    let old = c.args.self.now.accounts in
    let new = c.loop-i.accounts in
    let all = turned_all old c.args.amount c.loop-i.i new c.loop-i.rest c.loop-i-test.false c.loop-i.invariant in
    bore_by_rule last_first last_first_lawful (left_of old) (borne_of old) (left_of new) (borne_of new) c.args.amount c.loop-i.rest all.0 all.1
