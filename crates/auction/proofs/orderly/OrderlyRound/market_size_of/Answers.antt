use Rattle.std.proofs.Common.{◌==◌, rules}
use Rattle.rules.specs.declared.bid.Bid.{Bid}
use Rattle.auction.proofs.orderly.OrderlyRound.market_size_of.Goals as goal

pub returns : goal.returns
returns c = c.sizes_where.ensures (λ (b : Bid). b.member == c.args.member) (λ b t s. search rules)
