-- The bids of a round that takes one more.
use Rattle.std.proofs.Common.{◌≡◌, ℕ, zero, suc, ◌<◌, ◌≤◌, false, List, [], ◌∷◌, length, get_or, ℤ, ◌≤ℤ◌, Some, None, Option, subst, arith, MatchOption}
use borrow.Author.Differences.{ints}
use Rattle.std.specs.Ordering.{is_gt, is_lt, int_cmp}
use Rattle.std.proofs.lemmas.List.{get_or_default}
use Rattle.std.proofs.lemmas.Bool.{cond_both}
use Rattle.ranked.specs.Order.{InOrder, Arrived, arrive, behind}
use Rattle.rules.specs.declared.bid.Bid.{Bid}
use Rattle.rules.specs.Bids.{by_price}
use Rattle.rules.specs.Rounds.{OfMembers, no_bid, bid_at}
use Rattle.auction.specs.Orderly.{Falling}

-- ---- they stay in order

not_gt : (p q : ℤ) → p ≤ℤ q → is_gt (int_cmp p q) ≡ false
not_gt p q h = grind (arith, ints)

pub in_order : (bids : List Bid) → Falling bids → InOrder by_price bids
in_order bids fall i j d (h, l) =
    let ei : get_or bids i no_bid ≡ get_or bids i d = get_or_default bids i no_bid d (omega arith) in
    let ej : get_or bids j no_bid ≡ get_or bids j d = get_or_default bids j no_bid d l in
    subst (λ (x : Bid). is_gt (by_price x (get_or bids j d)) ≡ false) ei
    (subst (λ (y : Bid). is_gt (by_price (get_or bids i no_bid) y) ≡ false) ej
    (not_gt (bid_at bids j).price (bid_at bids i).price (fall i j (omega arith) l)))

-- ---- and of members

one_more : (n : ℕ) (b : Bid) (bids : List Bid) → b.member < n → OfMembers n bids → OfMembers n (b ∷ bids)
one_more n b bids h known zero l = h
one_more n b bids h known (suc i) l = known i (omega arith)

pub known_arrive : (n : ℕ) (b : Bid) (bids : List Bid) → b.member < n → OfMembers n bids → OfMembers n (arrive by_price b bids)
known_arrive n b [] h known = one_more n b [] h known
known_arrive n b (y ∷ ys) h known =
    cond_both (is_lt (by_price b y)) (b ∷ y ∷ ys) (y ∷ arrive by_price b ys) (OfMembers n) (λ _. one_more n b (y ∷ ys) h known)
    (λ _. one_more n y (arrive by_price b ys) (known 0 (omega arith)) (known_arrive n b ys h (λ i l. known (suc i) (omega arith))))

-- ---- the bid has arrived

pub arrived_by : (b : Bid) (r : Option ℕ) (limit : ℕ) (old new : List Bid) → length old < limit →
    MatchOption r ((limit ≤ length old) × (new ≡ old)) (λ i. (length old < limit) × (i ≡ behind by_price b old) × Arrived by_price b old new) → new ≡ arrive by_price b old
arrived_by b None limit old new room h = absurd (omega (arith, h.0))
arrived_by b (Some i) limit old new room h = h.2.is
