use Rattle.std.proofs.Common.{◌≡◌, ℤ, int_lt, ◌∙◌, arith, rules}
use Rattle.shares.specs.Sums.{total}
use Rattle.shares.specs.Outcomes.{Shared}
use Rattle.rules.specs.declared.bid.Bid.{Bid}
use Rattle.rules.specs.Books.{Book, above, alongside, level, same_price}
use Rattle.rules.specs.Rounds.{bid_at, market_size}
use Rattle.auction.specs.Ruled.{offered}
use Rattle.auction.proofs.Levels.{front, given, given_some}
use Rattle.auction.proofs.orderly.OrderlyRound.give_to.Goals as goal

pub unwrap-requires : goal.unwrap-requires
unfolding market_size
unwrap-requires c =
    let b : Book = offered c.args.self.now in
    let p : ℤ = (bid_at c.args.self.now.round.bids.now c.args.i).price in
    let eh : c.sizes_where-higher.result ≡ above b p = c.sizes_where-higher.ensures (λ (x : Bid). int_lt p x.price) (λ x t s. search rules) in
    let el : c.sizes_where-level.result ≡ level b p = c.sizes_where-level.ensures (λ (x : Bid). same_price x.price p) (λ x t s. search rules) in
    let eb : c.sizes_where-before.result ≡ total c.args.i (alongside b p) =
    c.sizes_where-before.ensures (λ (x : Bid). same_price x.price p) (λ x t s. search rules) ∙ front c.args.self.now.round.bids.now c.args.self.now.mark c.args.self.now.round.margin c.args.i (λ (x : Bid). same_price x.price p) (omega arith) in
    given_some b c.args.parts c.args.i c.requires c.sizes_where-level.result c.sizes_where-higher.result c.min-taken.result c.sizes_where-before.result c.market_size.result
    el eh (omega arith) eb c.market_size.ensures.is c.share.result c.share.ensures

pub returns : goal.returns
unfolding market_size
returns c =
    let b : Book = offered c.args.self.now in
    let p : ℤ = (bid_at c.args.self.now.round.bids.now c.args.i).price in
    let eh : c.sizes_where-higher.result ≡ above b p = c.sizes_where-higher.ensures (λ (x : Bid). int_lt p x.price) (λ x t s. search rules) in
    let el : c.sizes_where-level.result ≡ level b p = c.sizes_where-level.ensures (λ (x : Bid). same_price x.price p) (λ x t s. search rules) in
    let eb : c.sizes_where-before.result ≡ total c.args.i (alongside b p) =
    c.sizes_where-before.ensures (λ (x : Bid). same_price x.price p) (λ x t s. search rules) ∙ front c.args.self.now.round.bids.now c.args.self.now.mark c.args.self.now.round.margin c.args.i (λ (x : Bid). same_price x.price p) (omega arith) in
    let shared : Shared c.min-taken.result c.sizes_where-level.result c.sizes_where-before.result c.market_size.result c.unwrap.result = rw c.unwrap.ensures at c.share.ensures in
    let got = given b c.args.parts c.args.i c.requires c.sizes_where-level.result c.sizes_where-higher.result c.min-taken.result c.sizes_where-before.result c.market_size.result
    el eh (omega arith) eb c.market_size.ensures.is c.unwrap.result shared in
    record { is = got.0; small = omega (arith, got.1, c.market_size.ensures.small) }
