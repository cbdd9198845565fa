use Rattle.std.proofs.Common.{ℕ, length, ℤ, sym, ◌∙◌, arith, w64, SFits, rules}
use Rattle.std.proofs.lemmas.Int.{to_z-of_z}
use Rattle.rules.specs.Rounds.{bid_at}
use Rattle.auction.proofs.Pricing.{none_given, one_given}
use Rattle.auction.proofs.orderly.OrderlyRound.price.Goals as goal

pub returns-in-Some : goal.returns-in-Some
returns-in-Some c =
    let price : ℕ → ℤ = λ i. (bid_at c.args.self.now.round.bids.now i).price in
    let fits : SFits w64 (price c.in-Some.last) = search rules in
    to_z-of_z w64 (price c.in-Some.last) fits
    ∙ sym (one_given c.args.givings.now price c.args.self.now.round.reference (length c.args.self.now.round.bids.now) (omega (arith, c.args.self.now.orderly.few)) c.in-Some.last c.in-Some.ensures)

pub returns-in-None : goal.returns-in-None
returns-in-None c =
    let price : ℕ → ℤ = λ i. (bid_at c.args.self.now.round.bids.now i).price in
    let fits : SFits w64 c.args.self.now.round.reference = search rules in
    to_z-of_z w64 c.args.self.now.round.reference fits
    ∙ sym (none_given c.args.givings.now price c.args.self.now.round.reference (length c.args.self.now.round.bids.now) (omega (arith, c.args.self.now.orderly.few)) c.in-None.ensures)
