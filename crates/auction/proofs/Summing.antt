-- Sums of lists as sums of rows.
use Rattle.std.proofs.Common.{◌≡◌, ℕ, ◌+◌, ◌*◌, ◌≤◌, Bool, true, false, eqb, List, [], ◌∷◌, length, get_or, sym, ap, ◌∙◌, arith, mul-le-mul_right}
use Rattle.std.specs.List.{sum, sum_by, zip}
use Rattle.std.proofs.lemmas.List.Sums.{sum_by-cons}
use Rattle.shares.specs.Sums.{at, total}
use Rattle.shares.proofs.Totals.{total_none, total_bound, total_first}
use Rattle.shares.proofs.Sums.{sum_of_row}
use Rattle.rules.specs.declared.bid.Bid.{Bid}
use Rattle.rules.specs.Amounts.{when}
use Rattle.rules.specs.Rounds.{bid_at, no_bid, of_member}
use Rattle.auction.specs.Rows.{Low, Narrow}

pub when_low : (t : Bool) (n m : ℕ) → n ≤ m → when t n ≤ m
when_low true n m h = h
when_low false n m h = omega arith

-- what a function gives of each pair of two lists, place by place, together
pub zip_is : {X Y : Type 0} (f : X × Y → ℕ) (xs : List X) (ys : List Y) (d : X) (e : Y) → length xs ≤ length ys →
    sum_by f (zip xs ys) ≡ total (length xs) (λ i. f (get_or xs i d, get_or ys i e))
zip_is f [] ys d e h = sym (total_none (λ i. f (get_or [] i d, get_or ys i e)))
zip_is f (x ∷ xs) [] d e h = absurd (omega arith)
zip_is f (x ∷ xs) (y ∷ ys) d e h =
    sum_by-cons f (x, y) (zip xs ys) ∙ ap (λ (n : ℕ). f (x, y) + n) (zip_is f xs ys d e (omega arith)) ∙ sym (total_first (length xs) (λ i. f (get_or (x ∷ xs) i d, get_or (y ∷ ys) i e)))

-- what stands at the bids of member a, of numbers of 32 bits
module _ (bids : List Bid) (givings : List ℕ) (a : ℕ) (room : length bids ≤ length givings) where
  pub member_is : sum_by (λ (p : Bid × ℕ). when (eqb p.0.member a) p.1) (zip bids givings) ≡ of_member bids (at givings) a
  member_is = zip_is (λ (p : Bid × ℕ). when (eqb p.0.member a) p.1) bids givings no_bid 0 room

  pub member_low : length bids ≤ 96 → Narrow (length bids) givings → of_member bids (at givings) a ≤ 412316860320
  member_low few narrow = omega (
    arith,
    mul-le-mul_right 4294967295 few,
    total_bound (length bids) 4294967295 (λ i. when (eqb (bid_at bids i).member a) (at givings i)) (λ i l. when_low (eqb (bid_at bids i).member a) (at givings i) 4294967295 (narrow i l)),
  )

-- of n numbers that do not pass the whole
pub sum_low : (n : ℕ) (xs : List ℕ) → length xs ≡ n → Low n xs → sum xs ≤ 1000000 * n
sum_low n xs long low = omega (arith, sum_of_row xs n long, total_bound n 1000000 (at xs) low)

-- and of a row of 64
pub total_low : (row : List ℕ) → Low 64 row → total 64 (at row) ≤ 64000000
total_low row low = total_bound 64 1000000 (at row) low
