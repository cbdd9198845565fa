use Rattle.std.proofs.Common.{rules}
use Rattle.ranked.specs.Table.{listed}
use Rattle.book.proofs.Sizes.{sizes_added}
use Rattle.book.proofs.round.BookRound.sizes_of.Goals as goal

pub returns : goal.returns
returns c = let added = sizes_added c.args.member (listed c.args.self.now.bids) in search rules
