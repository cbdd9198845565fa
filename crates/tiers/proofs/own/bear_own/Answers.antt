use Rattle.tiers.specs.OwnTiers.{left_rows, borne_rows}
use Rattle.tiers.proofs.Owning.{own_bore}
use Rattle.tiers.proofs.own.bear_own.Goals as goal

pub returns : goal.returns
returns c =
    own_bore (left_rows c.args.pile.now) (borne_rows c.args.pile.now) _ _ c.args.loss
    c.bear-past_estate.result c.bear-past_share.result c.bear-past_juniors.result c.bear.result
    c.bear-past_estate.ensures.bears c.bear-past_share.ensures.bears c.bear-past_juniors.ensures.bears c.bear.ensures.bears
    c.bear-past_estate.ensures.charges c.bear-past_share.ensures.charges c.bear-past_juniors.ensures.charges c.bear.ensures.charges
