-- What is given to the bids of a book adds up to the parts, and passes no size.
use Rattle.std.proofs.Common.{◌≡◌, ℕ, zero, suc, ◌+◌, ◌-◌, ◌<◌, ◌≤◌, min, ◌⊎◌, ℤ, ◌≤ℤ◌, ◌<ℤ◌, sym, ap, ◌∙◌, inl, inr, add-one, arith}
use Rattle.std.proofs.lemmas.Bool.{cases_lt}
use Rattle.std.proofs.lemmas.Int.{by_lt_z}
use Rattle.shares.specs.Sums.{total}
use Rattle.shares.specs.Shares.{dealt}
use Rattle.shares.proofs.Totals.{total_none, total_more, total_plus, total_same, total_tail, total-zero}
use Rattle.shares.proofs.Sharing.{dealt_none, dealt_full, share_adds, share_within}
use Rattle.rules.specs.Books.{Book, Ranked, in_all, higher, above, alongside, level, taken, giving}
use Rattle.rules.proofs.Prices.{above_next, above_lowest, above_none, level_lower, level-higher, level_own, same_level, le-lt, lt-le}

pub giving_within : (b : Book) (n i : ℕ) → giving b n i ≤ b.size i
unfolding giving
giving_within b n i =
    let p = b.price i in
    let own : alongside b p i ≡ b.size i = level_own p (b.size i) in
    omega (arith, share_within (taken b n p) (level b p) (alongside b p) i (omega arith))

-- what goes to the first i bids, if the next of them stands at p or the last does
so_far : Book → ℕ → ℤ → ℕ → ℕ
so_far b n p i = min n (above b p) + dealt (taken b n p) (level b p) (total i (alongside b p))

module _ (b : Book) (n : ℕ) (ranked : Ranked b) where
  one_more : (i : ℕ) → total i (giving b n) ≡ so_far b n (b.price i) i → total (i + 1) (giving b n) ≡ so_far b n (b.price i) (i + 1)
  unfolding so_far giving
  one_more i e =
      let p = b.price i in
      omega (arith, total_more i (giving b n), share_adds (taken b n p) (level b p) (alongside b p) i)

  -- the first stands at the best price
  begin : 0 < b.count → total 0 (giving b n) ≡ so_far b n (b.price 0) 0
  unfolding so_far
  begin some =
      let p = b.price 0 in
      let none : above b p ≡ 0 = total-zero b.count (higher b p) (λ j l. above_none p (b.price j) (b.size j) (ranked 0 j (omega arith) l)) in
      let start : dealt (taken b n p) (level b p) (total 0 (alongside b p)) ≡ 0 =
      ap (dealt (taken b n p) (level b p)) (total_none (alongside b p)) ∙ dealt_none (taken b n p) (level b p) in
      omega (arith, total_none (giving b n))

  -- at the end of a level
  level_done : (i : ℕ) → i + 1 ≤ b.count → ((j : ℕ) → i + 1 ≤ j → j < b.count → b.price j <ℤ b.price i) → so_far b n (b.price i) (i + 1) ≡ min n (above b (b.price i) + level b (b.price i))
  unfolding so_far
  level_done i l lower =
      let p = b.price i in
      let all : level b p ≡ total (i + 1) (alongside b p) =
      total_tail (i + 1) b.count (alongside b p) l (λ j h k. level_lower p (b.price j) (b.size j) (lower j h k)) in
      let done : dealt (taken b n p) (level b p) (total (i + 1) (alongside b p)) ≡ taken b n p =
      ap (dealt (taken b n p) (level b p)) (sym all) ∙ dealt_full (taken b n p) (level b p) (omega arith) in
      omega arith

  -- from one level to the next
  next_level : (i : ℕ) → i + 1 < b.count → b.price (i + 1) <ℤ b.price i → so_far b n (b.price i) (i + 1) ≡ so_far b n (b.price (i + 1)) (i + 1)
  unfolding so_far
  next_level i l h =
      let p = b.price i in
      let q = b.price (i + 1) in
      let done : so_far b n p (i + 1) ≡ min n (above b p + level b p) =
      level_done i (omega arith) (λ j k m. le-lt (b.price j) q p (ranked (i + 1) j k m) h) in
      let side : (j : ℕ) → j < b.count → (b.price j ≤ℤ q) ⊎ (p ≤ℤ b.price j) =
      λ j m. (elim (cases_lt j (i + 1)) [ inl k ↦ inr (ranked j i (omega arith) (omega arith)) | inr k ↦ inl (ranked (i + 1) j k m) ]) in
      let up : above b q ≡ above b p + level b p =
      total_same b.count (higher b q) (λ j. higher b p j + alongside b p j) (λ j m. above_next p q (b.price j) (b.size j) h (side j m))
      ∙ total_plus b.count (higher b p) (alongside b p) in
      let none : total (i + 1) (alongside b q) ≡ 0 =
      total-zero (i + 1) (alongside b q) (λ j k. level-higher q (b.price j) (b.size j) (lt-le q p (b.price j) h (ranked j i (omega arith) (omega arith)))) in
      let start : dealt (taken b n q) (level b q) (total (i + 1) (alongside b q)) ≡ 0 =
      ap (dealt (taken b n q) (level b q)) none ∙ dealt_none (taken b n q) (level b q) in
      omega arith

  at_each : (i : ℕ) → i < b.count → total i (giving b n) ≡ so_far b n (b.price i) i
  at_each zero l = begin l
  at_each (suc i) l =
      let so : total (i + 1) (giving b n) ≡ so_far b n (b.price i) (i + 1) = one_more i (at_each i (omega arith)) in
      let step : total (i + 1) (giving b n) ≡ so_far b n (b.price (i + 1)) (i + 1) =
      by_lt_z (b.price (i + 1)) (b.price i)
      (λ h. so ∙ next_level i (omega arith) h)
      (λ h. so ∙ ap (λ p. so_far b n p (i + 1)) (same_level (b.price i) (b.price (i + 1)) h (ranked i (i + 1) (omega arith) (omega arith)))) in
      rw (← add-one) step

-- the givings add up to the parts, or to all sizes
pub total-giving : (b : Book) (n : ℕ) → Ranked b → total b.count (giving b n) ≡ min n (in_all b)
total-giving b n ranked =
    elim (cases_lt 0 b.count) [
      | inl some ↦ (
          let k = b.count - 1 in
          let p = b.price k in
          let end : k + 1 ≡ b.count = omega arith in
          let so : total (k + 1) (giving b n) ≡ so_far b n p (k + 1) = one_more b n ranked k (at_each b n ranked k (omega arith)) in
          let done : so_far b n p (k + 1) ≡ min n (above b p + level b p) = level_done b n ranked k (omega arith) (λ j h l. absurd (omega arith)) in
          let whole : in_all b ≡ above b p + level b p =
          total_same b.count b.size (λ j. higher b p j + alongside b p j) (λ j l. above_lowest p (b.price j) (b.size j) (ranked j k (omega arith) (omega arith)))
          ∙ total_plus b.count (higher b p) (alongside b p) in
          let last : total (k + 1) (giving b n) ≡ total b.count (giving b n) = ap (λ (c : ℕ). total c (giving b n)) end in
          omega arith)
      | inr none ↦ omega (arith, total-zero b.count (giving b n) (λ a l. absurd (omega arith)), total-zero b.count b.size (λ a l. absurd (omega arith)))
    ]
