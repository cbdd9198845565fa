use Rattle.tiers.proofs.Owning.{own_made}
use Rattle.tiers.proofs.own.OwnAmounts.pile.Goals as goal

pub returns : goal.returns
returns c =
    own_made c.args.self.now _ c.estate_row.result c.own_share_row.result c.member_row.result c.member_row-2.result
    c.in_ok-estate.ensures c.in_ok-share.ensures c.in_ok-junior_parts.ensures c.in_ok-senior_parts.ensures
    c.estate_row.ensures c.own_share_row.ensures c.member_row.ensures c.member_row-2.ensures
