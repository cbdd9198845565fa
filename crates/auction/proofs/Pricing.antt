-- The price of the last bid with a part.
use Rattle.std.proofs.Common.{◌≡◌, ℕ, zero, suc, ◌+◌, ◌<◌, ◌≤◌, cond, ltb, ℤ, sym, refl, ap, ◌∙◌, subst, inl, inr, arith, List, length, take, length-take-le, get_or-take}
use Rattle.std.specs.List.{AllWithin, HoldsAt}
use Rattle.shares.specs.Sums.{at}
use Rattle.std.proofs.lemmas.Bool.{cases_lt, cond-true, cond-false, lt-ltb, le-ltb}
use Rattle.rules.specs.Rounds.{last_given}

module _ (g : ℕ → ℕ) (price : ℕ → ℤ) (p : ℤ) where
  pub last_none : (n : ℕ) → ((i : ℕ) → i < n → g i ≤ 0) → last_given g price p n ≡ p
  last_none zero none = refl
  last_none (suc n) none =
      cond-false (ltb 0 (g n)) (price n) (last_given g price p n) (le-ltb 0 (g n) (none n (omega arith))) ∙ last_none n (λ i l. none i (omega arith))

  pub last_is : (n k : ℕ) → k < n → 0 < g k → ((i : ℕ) → k < i → i < n → g i ≤ 0) → last_given g price p n ≡ price k
  last_is zero k inside some none = absurd (omega arith)
  last_is (suc n) k inside some none =
      elim (cases_lt k n) [
        | inl l ↦ cond-false (ltb 0 (g n)) (price n) (last_given g price p n) (le-ltb 0 (g n) (none n l (omega arith)))
            ∙ last_is n k l some (λ i low high. none i low (omega arith))
        | inr l ↦ (let e : k ≡ n = omega arith in subst (λ (m : ℕ). last_given g price p (suc n) ≡ price m) (sym e)
            (let here : 0 < g n = rw e at some in cond-true (ltb 0 (g n)) (price n) (last_given g price p n) (lt-ltb 0 (g n) here)))
      ]

  pub last_same : (h : ℕ → ℕ) (n : ℕ) → ((i : ℕ) → i < n → g i ≡ h i) → last_given g price p n ≡ last_given h price p n
  last_same h zero same = refl
  last_same h (suc n) same =
      ap (λ (x : ℕ). cond (ltb 0 x) (price n) (last_given g price p n)) (same n (omega arith))
      ∙ ap (λ (z : ℤ). cond (ltb 0 (h n)) (price n) z) (last_same h n (λ i l. same i (omega arith)))

-- the same of the first n of some givings
module _ (givings : List ℕ) (price : ℕ → ℤ) (p : ℤ) (n : ℕ) (room : n ≤ length givings) where
  size : length (take n givings) ≡ n
  size = length-take-le n givings room

  pub none_given : AllWithin (λ m. m ≤ 0) (take n givings) 0 (length (take n givings)) → last_given (at givings) price p n ≡ p
  none_given none = last_none (at givings) price p n (λ i l. omega (arith, none i 0 (omega arith) (omega (arith, size)), get_or-take n givings i 0 l))

  pub one_given : (k : ℕ) → (k < length (take n givings)) × HoldsAt (λ m. 0 < m) (take n givings) k × AllWithin (λ m. m ≤ 0) (take n givings) (k + 1) (length (take n givings)) →
      last_given (at givings) price p n ≡ price k
  one_given k (inside, some, none) =
      let l : k < n = omega (arith, size) in
      last_is (at givings) price p n k l (omega (arith, some 0, get_or-take n givings k 0 l))
      (λ i low high. omega (arith, none i 0 (omega arith) (omega (arith, size)), get_or-take n givings i 0 high))
