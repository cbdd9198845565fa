use Rattle.std.proofs.Common.{◌≡◌, ◌-◌, ◌≤◌, min, length, ◌∙◌, inl, inr, arith, w64, SFits, to_z, of_z}
use Rattle.std.proofs.lemmas.Bool.{cases_lt}
use Rattle.std.proofs.lemmas.Int.{to_z-of_z}
use Rattle.shares.specs.Sums.{at}
use Rattle.rules.specs.Rounds.{bid_at, last_given}
use Rattle.auction.proofs.Summing.{total_low}
use Rattle.auction.proofs.Composing.{parts_low, whole_is, composed}
use Rattle.auction.proofs.orderly.OrderlyRound.divide.Goals as goal

pub sum_of-short-requires : goal.sum_of-short-requires
sum_of-short-requires c =
    let s = c.shortfalls-shortfalls.ensures in
    omega (
      arith,
      total_low c.shortfalls-shortfalls.result (λ a h. elim (cases_lt a c.args.self.now.round.members) [ inl l ↦ s.low a l | inr l ↦ omega (arith, s.is.blank a l) ]),
    )

pub allot-allotments-requires : goal.allot-allotments-requires
allot-allotments-requires c = record {
  small = c.give-givings.ensures.small;
  low = parts_low c.args.self.now.round.members c.min.result c.sum_of-short.result c.shortfalls-shortfalls.result c.shares_of-shortfall_parts.result (omega (arith, c.min.ensures))
      c.shortfalls-shortfalls.ensures.low c.shares_of-shortfall_parts.ensures;
}

pub transfers-transfers-requires : goal.transfers-transfers-requires
transfers-transfers-requires c =
    let en : c.saturating_sub.result ≡ c.args.offer - c.sum_of-short.result = omega (arith, c.saturating_sub.ensures) in
    let em : c.min.result ≡ min c.args.offer c.sum_of-short.result = omega (arith, c.min.ensures) in
    omega (
      arith,
      whole_is c.args.self.now c.args.offer c.shortfalls-shortfalls.result c.give-givings.result c.shares_of-shortfall_parts.result c.allot-allotments.result
          c.sum_of-short.result c.saturating_sub.result c.min.result en em c.shortfalls-shortfalls.ensures.is c.sum_of-short.ensures c.give-givings.ensures.is
          c.shares_of-shortfall_parts.ensures c.allot-allotments.ensures (omega arith),
    )

pub returns : goal.returns
returns c =
    let en : c.saturating_sub.result ≡ c.args.offer - c.sum_of-short.result = omega (arith, c.saturating_sub.ensures) in
    let em : c.min.result ≡ min c.args.offer c.sum_of-short.result = omega (arith, c.min.ensures) in
    let low : c.args.offer ≤ 1000000 = omega arith in
    let fits : SFits w64 c.price-price.result = record { sfits = c.price-price.type_inv } in
    let ez : to_z w64 (of_z w64 c.price-price.result) ≡ last_given (at c.give-givings.result) (λ i. (bid_at c.args.self.now.round.bids.now i).price) c.args.self.now.round.reference (length c.args.self.now.round.bids.now) =
    to_z-of_z w64 c.price-price.result fits ∙ c.price-price.ensures in
    composed c.args.self.now c.args.offer c.shortfalls-shortfalls.result c.give-givings.result c.shares_of-shortfall_parts.result c.allot-allotments.result
    c.sum_of-short.result c.saturating_sub.result c.min.result en em c.shortfalls-shortfalls.ensures.is c.sum_of-short.ensures c.give-givings.ensures.is
    c.shares_of-shortfall_parts.ensures c.allot-allotments.ensures low (to_z w64 (of_z w64 c.price-price.result)) c.transfers-transfers.result ez c.transfers-transfers.ensures
