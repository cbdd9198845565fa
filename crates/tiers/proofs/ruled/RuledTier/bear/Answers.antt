use Rattle.std.proofs.Common.{◌≡◌, ◌∙◌, ap, arith}
use Rattle.shares.specs.Sums.{at}
use Rattle.tiers.specs.Meanings.{left_in, borne_in}
use Rattle.tiers.proofs.Rising.{charged_by, bore_by_rule}
use Rattle.tiers.proofs.Rows.{row_is_left}
use Rattle.tiers.proofs.ruled.RuledTier.bear.Goals as goal

pub returns-clause-charges : goal.returns-clause-charges
returns-clause-charges g c =
    let old = c.args.self.now.accounts in
    let left : at c.left-left.result ≡ left_in old = row_is_left old.each c.left-left.result 64 old.wide c.left-left.ensures.wide c.left-left.ensures.each in
    charged_by g.R.Charging.rule (left_in old) (borne_in old) (left_in c.charge.new.self) (borne_in c.charge.new.self)
    c.charges-charges.result c.args.amount c.charge.ensures
    (λ a h. c.charges-charges.ensures.each a h ∙ ap (λ f. g.R.Charging.rule f c.args.amount a) left)

pub returns-clause-bears : goal.returns-clause-bears
returns-clause-bears g c =
    let old = c.args.self.now.accounts in
    let new = c.charge.new.self in
    bore_by_rule g.R.Charging.rule g.met.R.Charging.lawful (left_in old) (borne_in old) (left_in new) (borne_in new) c.args.amount _
    (returns-clause-charges g c) (omega arith)
