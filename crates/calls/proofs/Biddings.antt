-- What a round keeps when a bid arrives in it.
use Rattle.std.proofs.Common.{◌≡◌, ℕ, ◌+◌, ◌<◌, ◌≤◌, Bool, true, false, cond, eqb, List, [], ◌∷◌, ◌++◌, length, ℤ, pos, negsuc, nat_abs, sym, refl, ap, arith}
use borrow.Author.Differences.{ints}
use Rattle.std.specs.Ordering.{is_lt}
use Rattle.std.proofs.lemmas.Bool.Decides.{nat_tests}
use Rattle.ranked.specs.Order.{TotalOrder, arrive, arrivals, InOrder}
use Rattle.ranked.proofs.Arrivals.{all_arrive, arrived, inserted_behind, in_order_none}
use Rattle.rules.specs.declared.bid.Bid.{Bid}
use Rattle.rules.specs.Amounts.{when}
use Rattle.rules.specs.Bids.{by_price}
use Rattle.calls.specs.Packages.{Bidding, blank, bid_in, struck_in, sizes_of}
use Rattle.calls.specs.Calls.{outside_price}
use Rattle.calls.specs.Limits.{KeptBid, KeptBidding}

pub price_order : TotalOrder by_price
price_order = record {
  turned = λ a b. grind (arith, ints, nat_tests);
  before = λ a b c h k. grind (arith, ints, nat_tests);
  level = λ a b c h k. grind (arith, ints, nat_tests);
}

pub price_within : (z : ℤ) → outside_price z ≡ false → nat_abs z ≤ 10000000000
price_within (pos n) h = grind (arith, ints, nat_tests)
price_within (negsuc n) h = grind (arith, ints, nat_tests)

sizes-arrive : (a : ℕ) (b : Bid) (bs : List Bid) → sizes_of a (arrive by_price b bs) ≡ when (eqb b.member a) b.size + sizes_of a bs
sizes-arrive a b [] = refl
sizes-arrive a b (x ∷ bs) =
    let ih = sizes-arrive a b bs in
    elim (is_lt (by_price b x)) as (λ v. sizes_of a (cond v (b ∷ x ∷ bs) (x ∷ arrive by_price b bs)) ≡ when (eqb b.member a) b.size + sizes_of a (x ∷ bs)) [
      | true ↦ refl
      | false ↦ omega (arith, ih)
    ]

arrive_more : (b : Bid) (bs : List Bid) → length (arrive by_price b bs) ≡ length bs + 1
arrive_more b bs = (arrived price_order b bs (arrive by_price b bs) (sym (inserted_behind by_price b bs))).more

arrive_in_order : (b : Bid) (bs : List Bid) → InOrder by_price bs → InOrder by_price (arrive by_price b bs)
arrive_in_order b bs h = (arrived price_order b bs (arrive by_price b bs) (sym (inserted_behind by_price b bs))).in_order h

sizes_still : (a m : ℕ) (b : Bid) (bs : List Bid) → b.member ≡ m → sizes_of m bs + b.size ≤ 1000000 → sizes_of a bs ≤ 1000000 → when (eqb b.member a) b.size + sizes_of a bs ≤ 1000000
sizes_still a m b bs e mine others = by_test (eqb b.member a) refl
  where
    by_test : (v : Bool) → eqb b.member a ≡ v → when v b.size + sizes_of a bs ≤ 1000000
    by_test true t = let same : m ≡ a = grind (arith, nat_tests) in omega (arith, ap (λ n. sizes_of n bs) same)
    by_test false t = omega arith

pub blank_kept : (n : ℕ) → KeptBidding n blank
blank_kept n = record { few = omega arith; each = tt; in_order = in_order_none by_price; sizes = λ a. omega arith }

pub struck_kept : (n : ℕ) (r : Bidding) → KeptBidding n r → KeptBidding n (struck_in r)
struck_kept n r k = record { few = k.few; each = k.each; in_order = k.in_order; sizes = k.sizes }

pub bid_kept : (n : ℕ) (b : Bid) (r : Bidding) → KeptBid n b → length r.bids < 96 → sizes_of b.member r.bids + b.size ≤ 1000000 → KeptBidding n r → KeptBidding n (bid_in b r)
bid_kept n b r ok room fits k = record {
  few = omega (arith, arrive_more b r.bids, k.few);
  each = all_arrive price_order (KeptBid n) b r.bids ok k.each;
  in_order = arrive_in_order b r.bids k.in_order;
  sizes = λ a. omega (arith, sizes-arrive a b r.bids, sizes_still a b.member b r.bids refl fits (k.sizes a));
}

-- one arrival more
pub arrivals_push : (t bs : List Bid) (b : Bid) → arrivals by_price t (bs ++ b ∷ []) ≡ arrive by_price b (arrivals by_price t bs)
arrivals_push t [] b = refl
arrivals_push t (x ∷ bs) b = arrivals_push (arrive by_price x t) bs b
