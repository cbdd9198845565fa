-- The market bids cover what goes to bids, the allotments add up to the offer, and who falls short gets no more than its minimum.
use Rattle.std.proofs.Common.{◌≡◌, ℕ, ◌+◌, ◌<◌, ◌≤◌, min, eqb, length, ap, ◌∙◌, arith}
use Rattle.std.proofs.lemmas.Bool.Decides.{nat_tests}
use Rattle.shares.specs.Sums.{total}
use Rattle.shares.specs.Shares.{share}
use Rattle.shares.proofs.Totals.{total-le, total_plus, total_within, total_by}
use Rattle.shares.proofs.Sharing.{shares_add_up, dealt_full, share_within, share_of_base}
use Rattle.rules.specs.Amounts.{when}
use Rattle.rules.specs.Minimums.{all_parts}
use Rattle.rules.specs.Books.{in_all}
use Rattle.rules.specs.Rounds.{Round, Sound, bid_at, market, of_member, shortfall, shortfalls, bid_filled, givings, bid_parts, shortfall_parts, allotment}
use Rattle.rules.specs.RoundLaws.{MarketCovers, OfferAllotted, NonBidders}
use Rattle.rules.proofs.Givings.{giving_within, total-giving}

-- shares of no more than the weights add up to the amount, also where there is nothing
pub total_shares : (n amount : ℕ) (w : ℕ → ℕ) → amount ≤ total n w → total n (share amount (total n w) w) ≡ amount
total_shares n amount w h = shares_add_up amount (total n w) w n ∙ dealt_full amount (total n w) h

-- what is no more at each bid is no more at a member's
counts_le : (a b x y : ℕ) → x ≤ y → when (eqb a b) x ≤ when (eqb a b) y
counts_le a b x y h = grind (arith, nat_tests)

module _ (r : Round) where
  pub of_member_le : (f g : ℕ → ℕ) → ((i : ℕ) → i < length r.bids → f i ≤ g i) → (a : ℕ) → of_member r.bids f a ≤ of_member r.bids g a
  of_member_le f g h a =
      total-le (length r.bids) (λ i. when (eqb (bid_at r.bids i).member a) (f i)) (λ i. when (eqb (bid_at r.bids i).member a) (g i))
      (λ i l. counts_le (bid_at r.bids i).member a (f i) (g i) (h i l))

module _ (r : Round) (sound : Sound r) where
  -- what stands at the bids of each member adds up to what stands at all bids
  pub by_member : (f : ℕ → ℕ) → total r.members (of_member r.bids f) ≡ total (length r.bids) f
  by_member f = total_by r.members (length r.bids) (λ i. (bid_at r.bids i).member) f sound.known

  covers : total r.members r.minimum ≤ in_all (market r) + shortfalls r
  unfolding shortfall
  covers =
      omega (
        arith,
        total-le r.members r.minimum (λ a. of_member r.bids (market r).size a + shortfall r a) (λ a l. omega arith),
        total_plus r.members (of_member r.bids (market r).size) (shortfall r),
        by_member (market r).size,
      )

pub market_covers : MarketCovers
market_covers r sound q h =
    let enough : bid_filled r q ≤ in_all (market r) = omega (arith, covers r sound, sound.covered) in
    record {
      enough = enough;
      whole = omega (arith, total-giving (market r) (bid_filled r q) sound.ranked);
      within = λ i l. giving_within (market r) (bid_filled r q) i;
    }

pub offer_allotted : OfferAllotted
unfolding allotment
offer_allotted r sound q h =
    omega (
      arith,
      total_plus r.members (bid_parts r q) (shortfall_parts r q),
      by_member r sound (givings r q),
      (market_covers r sound q h).whole,
      total_shares r.members (min q (shortfalls r)) (shortfall r) (omega arith),
    )

-- no allotment passes the offer
pub allotment_within : (r : Round) → Sound r → (offer : ℕ) → offer ≤ all_parts → (a : ℕ) → a < r.members → allotment r offer a ≤ offer
allotment_within r sound q h a l = omega (arith, offer_allotted r sound q h, total_within r.members (allotment r q) a l)

-- no shortfall passes the minimum
pub shortfall_within : (r : Round) (a : ℕ) → shortfall r a ≤ r.minimum a
unfolding shortfall
shortfall_within r a = omega arith

-- who falls short gets no more than its minimum
pub short_within : (r : Round) (q a : ℕ) → 0 < shortfall r a → allotment r q a ≤ r.minimum a
unfolding allotment shortfall
short_within r q a short =
    omega (
      arith,
      of_member_le r (givings r q) (market r).size (λ i l. giving_within (market r) (bid_filled r q) i) a,
      share_within (min q (shortfalls r)) (shortfalls r) (shortfall r) a (omega arith),
    )

pub non_bidders : NonBidders
non_bidders r q a l short =
    record {
      own = λ h.
          (let e : min q (shortfalls r) ≡ shortfalls r = omega arith in
          ap (λ n. share n (shortfalls r) (shortfall r) a) e ∙ share_of_base (shortfalls r) (shortfall r) a (total_within r.members (shortfall r) a l));
      within = short_within r q a short;
      no_credit = omega (arith, short_within r q a short);
    }
