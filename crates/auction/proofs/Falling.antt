-- Bids in rank order, from one to the next.
use Rattle.std.proofs.Common.{◌≡◌, ℕ, zero, suc, ◌+◌, ◌<◌, Bool, true, false, List, length, ◌≤ℤ◌, int_le, subst, inl, inr, add-one, arith, rules}
use Rattle.std.specs.List.{IsAllAdjacentAnswer}
use borrow.Author.Differences.{ints}
use lib.Signed.{≤ℤ_refl}
use Rattle.std.proofs.lemmas.Bool.{cases_lt}
use Rattle.rules.specs.declared.bid.Bid.{Bid}
use Rattle.rules.specs.Rounds.{bid_at, no_bid}
use Rattle.auction.specs.Orderly.{Falling}

falling : (bids : List Bid) → ((i : ℕ) → i + 1 < length bids → (bid_at bids (i + 1)).price ≤ℤ (bid_at bids i).price) → Falling bids
falling bids next i zero h l = let e : i ≡ 0 = omega arith in rw e (≤ℤ_refl (bid_at bids 0).price)
falling bids next i (suc j) h l =
    elim (cases_lt j i) [
      | inl k ↦ (let e : i ≡ suc j = omega arith in rw e (≤ℤ_refl (bid_at bids (suc j)).price))
      | inr k ↦ (
          let a : (bid_at bids (suc j)).price ≤ℤ (bid_at bids j).price = subst (λ (x : ℕ). (bid_at bids x).price ≤ℤ (bid_at bids j).price) (add-one j) (next j (omega arith)) in
          let b : (bid_at bids j).price ≤ℤ (bid_at bids i).price = falling bids next i j k (omega arith) in
          omega (arith, ints))
    ]

-- what a test of each bid and the next answers
pub tested : (bids : List Bid) (r : Bool) → IsAllAdjacentAnswer (λ x y b. b ≡ int_le y.price x.price) bids r → (r ≡ true → Falling bids) × (r ≡ false → Falling bids → ⊥)
tested bids true all = (λ _. falling bids (λ i l. let h = all i no_bid l in search rules), λ e _. absurd (search rules))
tested bids false (k, inside, some) = (λ e. absurd (search rules), λ _ f. let h = some no_bid in let low = f k (k + 1) (omega arith) inside in search rules)
