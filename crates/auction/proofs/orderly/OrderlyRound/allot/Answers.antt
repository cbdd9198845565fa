use Rattle.std.proofs.Common.{◌≡◌, ℕ, ◌+◌, ◌<◌, ◌≤◌, eqb, List, length, ap, ◌∙◌, arith, rules}
use Rattle.std.specs.List.{sum_by, zip}
use Rattle.shares.specs.Sums.{at}
use Rattle.rules.specs.declared.bid.Bid.{Bid}
use Rattle.rules.specs.Amounts.{when}
use Rattle.auction.proofs.Summing.{member_is, member_low}
use Rattle.auction.proofs.orderly.OrderlyRound.allot.Goals as goal

-- the parts given to the bids of member a
abbrev given_to : List Bid → List ℕ → ℕ → ℕ
given_to bids givings a = sum_by (λ (p : Bid × ℕ). when (eqb p.0.member a) p.1) (zip bids givings)

pub row_of-requires : goal.row_of-requires
row_of-requires c =
    let room : length c.args.self.now.round.bids.now ≤ length c.args.givings.now = omega (arith, c.told-givings, c.args.self.now.orderly.few) in
    let low : (a : ℕ) → given_to c.args.self.now.round.bids.now c.args.givings.now a ≤ 412316860320 =
    λ a. rw (member_is c.args.self.now.round.bids.now c.args.givings.now a room) (member_low c.args.self.now.round.bids.now c.args.givings.now a room c.args.self.now.orderly.few c.requires.small) in
    let given : (a : ℕ) → given_to c.args.self.now.round.bids.now c.args.givings.now a < 18446744073709551616 = λ a. omega (arith, low a) in
    let both : (a : ℕ) → a < c.args.self.now.round.members → given_to c.args.self.now.round.bids.now c.args.givings.now a + at c.args.shortfall_parts.now a < 18446744073709551616 =
    λ a h. omega (arith, low a, c.requires.low a h) in
    (search rules, (λ a h. let l : a < 64 = omega (arith, c.args.self.now.orderly.seats) in let g = given a in let b = both a h in search rules, search rules))

pub returns : goal.returns
returns c =
    let room : length c.args.self.now.round.bids.now ≤ length c.args.givings.now = omega (arith, c.told-givings, c.args.self.now.orderly.few) in
    record {
      shows = λ a h.
          let s = c.row_of.ensures.shows a h in
          let e : at c.row_of.result a ≡ given_to c.args.self.now.round.bids.now c.args.givings.now a + at c.args.shortfall_parts.now a = search rules in
          e ∙ ap (λ (n : ℕ). n + at c.args.shortfall_parts.now a) (member_is c.args.self.now.round.bids.now c.args.givings.now a room);
      blank = c.row_of.ensures.blank;
    }
