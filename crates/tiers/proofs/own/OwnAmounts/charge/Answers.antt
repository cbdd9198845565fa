use Rattle.tiers.proofs.Owning.{own_charged}
use Rattle.tiers.proofs.own.OwnAmounts.charge.Goals as goal

pub returns : goal.returns
returns c =
    own_charged c.args.self.now c.args.loss c.in_ok-pile.pile c.bear_own-unborne.new.pile c.borne_row-each.result c.bear_own-unborne.result
    c.in_ok-pile.ensures c.bear_own-unborne.ensures c.borne_row-each.ensures.wide c.borne_row-each.ensures.each
