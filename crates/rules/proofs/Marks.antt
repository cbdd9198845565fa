-- What the mark is, and which bids are in the market.
use Rattle.std.proofs.Common.{◌≡◌, ℕ, zero, suc, ◌+◌, ◌-◌, ◌<◌, ◌≤◌, Bool, true, false, cond, not, eqb, leb, List, [], ◌∷◌, length, ℤ, pos, ◌-ℤ◌, ◌≤ℤ◌, ◌<ℤ◌, refl, ap, ◌∙◌, inl, inr, add-one, arith}
use lib.Signed.{le_z}
use borrow.Author.Differences.{ints}
use Rattle.std.proofs.lemmas.Bool.{cond-true, cond-false, le-leb, lt-leb, or_parts, or_cases, not-false, not-true, eqb-true, eqb-false}
use Rattle.shares.proofs.Totals.{total_none, total_first}
use Rattle.rules.specs.declared.bid.Bid.{Bid}
use Rattle.rules.specs.Amounts.{when}
use Rattle.rules.specs.Minimums.{all_parts}
use Rattle.rules.specs.Rounds.{bid_at, sizes, of_another, of_two, reaching, mark, market_size}
use Rattle.rules.specs.RoundLaws.{MarkReached, MarketByPrice}

-- the sizes without the first bid's
sizes_first : (x : Bid) (xs : List Bid) (n : ℕ) → sizes (x ∷ xs) (suc n) ≡ x.size + sizes xs n
sizes_first x xs n = total_first n (λ j. (bid_at (x ∷ xs) j).size)

reaching_at : (bids : List Bid) (n : ℕ) (p : ℤ) (i : ℕ) → i < length bids → sizes bids i < n → n ≤ sizes bids (suc i) → reaching n bids p ≡ (bid_at bids i).price
reaching_at [] n p i l h k = absurd (omega arith)
reaching_at (x ∷ xs) n p zero l h k =
    cond-true (leb n x.size) x.price (reaching (n - x.size) xs p) (le-leb n x.size (omega (arith, sizes_first x xs 0, total_none (λ j. (bid_at xs j).size))))
reaching_at (x ∷ xs) n p (suc i) l h k =
    let a = sizes_first x xs i in
    let b = sizes_first x xs (suc i) in
    cond-false (leb n x.size) x.price (reaching (n - x.size) xs p) (lt-leb n x.size (omega arith))
    ∙ reaching_at xs (n - x.size) p i (omega arith) (omega arith) (omega arith)

reaching_not : (bids : List Bid) (n : ℕ) (p : ℤ) → sizes bids (length bids) < n → reaching n bids p ≡ p
reaching_not [] n p h = refl
reaching_not (x ∷ xs) n p h =
    let a = sizes_first x xs (length xs) in
    cond-false (leb n x.size) x.price (reaching (n - x.size) xs p) (lt-leb n x.size (omega arith))
    ∙ reaching_not xs (n - x.size) p (omega arith)

none_another : (a : ℕ) (bids : List Bid) → of_another a bids ≡ false → (i : ℕ) → i < length bids → (bid_at bids i).member ≡ a
none_another a [] e i l = absurd (omega arith)
none_another a (x ∷ xs) e zero l = eqb-true x.member a (not-false (eqb x.member a) (or_parts (not (eqb x.member a)) (of_another a xs) e).0)
none_another a (x ∷ xs) e (suc i) l = none_another a xs (or_parts (not (eqb x.member a)) (of_another a xs) e).1 i (omega arith)

of_one : (bids : List Bid) → of_two bids ≡ false → (i : ℕ) → i < length bids → (bid_at bids i).member ≡ (bid_at bids 0).member
of_one [] e i l = absurd (omega arith)
of_one (x ∷ xs) e zero l = refl
of_one (x ∷ xs) e (suc i) l = none_another x.member xs e i (omega arith)

some_another : (a : ℕ) (bids : List Bid) → of_another a bids ≡ true → (i : ℕ) × (i < length bids) × ((bid_at bids i).member ≡ a → ⊥)
some_another a [] e = absurd (let z : ◌≡◌ {A = ℕ} 0 1 = cc in omega arith)
some_another a (x ∷ xs) e =
    elim (or_cases (not (eqb x.member a)) (of_another a xs) e) [
      | inl here ↦ (0, omega arith, eqb-false x.member a (not-true (eqb x.member a) here))
      | inr behind ↦ (let other = some_another a xs behind in (suc other.0, omega (arith, other.1), other.2))
    ]

of_two_lem : (bids : List Bid) → of_two bids ≡ true → (i : ℕ) × (i < length bids) × ((bid_at bids i).member ≡ (bid_at bids 0).member → ⊥)
of_two_lem [] e = absurd (let z : ◌≡◌ {A = ℕ} 0 1 = cc in omega arith)
of_two_lem (x ∷ xs) e = let other = some_another x.member xs e in (suc other.0, omega (arith, other.1), other.2)

either : (t : Bool) (z p : ℤ) → z ≡ p → cond t z p ≡ p
either true z p e = e
either false z p e = refl

pub mark_reached : MarkReached
unfolding mark
mark_reached bids p =
    record {
      reached = λ two i l h k.
          cond-true (of_two bids) (reaching all_parts bids p) p two
          ∙ reaching_at bids all_parts p i l h (omega (arith, ap (sizes bids) (add-one i)));
      short = λ h. either (of_two bids) (reaching all_parts bids p) p (reaching_not bids all_parts p h);
      alone = λ e. cond-false (of_two bids) (reaching all_parts bids p) p e;
      two = of_two_lem bids;
      one = of_one bids;
    }

counts : (z w : ℤ) (s : ℕ) → z ≤ℤ w → when (le_z z w) s ≡ s
counts z w s h = grind (arith, ints)

counts_not : (z w : ℤ) (s : ℕ) → w <ℤ z → when (le_z z w) s ≡ 0
counts_not z w s h = grind (arith, ints)

pub market_by_price : MarketByPrice
unfolding market_size
market_by_price r i =
    let below = mark r.bids r.reference -ℤ (bid_at r.bids i).price in
    record {
      inside = counts below (pos r.margin) (bid_at r.bids i).size;
      outside = counts_not below (pos r.margin) (bid_at r.bids i).size;
    }
