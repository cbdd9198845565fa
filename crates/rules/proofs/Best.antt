-- No giving of as many parts to the same bids is worth more.
use Rattle.std.proofs.Common.{◌≡◌, ℕ, zero, suc, ◌+◌, ◌-◌, ◌*◌, ◌<◌, ◌≤◌, ◌⊎◌, ℤ, pos, ◌*ℤ◌, ◌≤ℤ◌, ◌<ℤ◌, sym, refl, ap, ◌∙◌, inl, inr, add-mul, mul-le-mul_left, mul-add, arith}
use lib.Signed.{clash_ℤ}
use borrow.Author.Differences.{ints, up, down, product_is}
use Rattle.std.proofs.lemmas.Bool.{cases_lt}
use Rattle.std.proofs.lemmas.Int.{by_lt_z}
use Rattle.shares.specs.Sums.{total}
use Rattle.shares.specs.Shares.{share}
use Rattle.shares.proofs.Totals.{total_plus, total-le, total_within, total-zero}
use Rattle.shares.proofs.Sharing.{share_of_none, share_of_base}
use Rattle.rules.specs.Amounts.{total_z}
use Rattle.rules.specs.Books.{Book, higher, above, alongside, level, taken, giving, worth}
use Rattle.rules.specs.Rounds.{market, bid_filled}
use Rattle.rules.specs.RoundLaws.{BookBest, GivingBest}
use Rattle.rules.proofs.Prices.{above_both, level_own}
use Rattle.rules.proofs.Dividing.{market_covers}

-- f parts are worth no more than h parts at a price that is read as `u - d`, each part less the price `U - D`
Pays : ℕ → ℕ → ℕ → ℕ → ℕ → ℕ → Type 0
Pays f h u d U D = f * u + h * d + (h * U + f * D) ≤ h * u + f * d + (f * U + h * D)

pays_more : (f x u d U D : ℕ) → U + d ≤ u + D → Pays f (f + x) u d U D
unfolding Pays
pays_more f x u d U D h =
    omega (arith, mul-le-mul_left x h, mul-add x U d, mul-add x u D, add-mul f x d, add-mul f x U, add-mul f x u, add-mul f x D)

pays_less : (h x u d U D : ℕ) → u + D ≤ U + d → Pays (h + x) h u d U D
unfolding Pays
pays_less h x u d U D l =
    omega (arith, mul-le-mul_left x l, mul-add x U d, mul-add x u D, add-mul h x d, add-mul h x U, add-mul h x u, add-mul h x D)

pays_same : (h u d U D : ℕ) → Pays h h u d U D
unfolding Pays
pays_same h u d U D = omega arith

-- more where the price z is above p, and less where it is below
pays : (f h : ℕ) (z p : ℤ) → (p <ℤ z → f ≤ h) → (z <ℤ p → h ≤ f) → Pays f h (up z) (down z) (up p) (down p)
pays f h z p more less =
    elim (cases_lt f h) [
      | inl l ↦ (
          let e : h ≡ f + (h - f) = omega arith in
          let k : p ≤ℤ z = by_lt_z z p (λ low. absurd (omega (arith, less low))) (λ high. high) in
          rw e (pays_more f (h - f) (up z) (down z) (up p) (down p) (omega (arith, ints))))
      | inr l ↦ (
          elim (cases_lt h f) [
            | inl m ↦ (
                let e : f ≡ h + (f - h) = omega arith in
                let k : z ≤ℤ p = by_lt_z p z (λ high. absurd (omega (arith, more high))) (λ low. low) in
                rw e (pays_less h (f - h) (up z) (down z) (up p) (down p) (omega (arith, ints))))
            | inr m ↦ (let e : f ≡ h = omega arith in rw e (pays_same h (up z) (down z) (up p) (down p)))
          ])
    ]

all_pay : (n : ℕ) (f h u d : ℕ → ℕ) (U D : ℕ) → ((i : ℕ) → i < n → Pays (f i) (h i) (u i) (d i) U D) →
    total n (λ i. f i * u i) + total n (λ i. h i * d i) + (total n h * U + total n f * D)
    ≤ total n (λ i. h i * u i) + total n (λ i. f i * d i) + (total n f * U + total n h * D)
unfolding total Pays
all_pay zero f h u d U D each = omega arith
all_pay (suc n) f h u d U D each =
    omega (
      arith,
      all_pay n f h u d U D (λ i l. each i (omega arith)),
      each n (omega arith),
      add-mul (total n h) (h n) U,
      add-mul (total n f) (f n) D,
      add-mul (total n f) (f n) U,
      add-mul (total n h) (h n) D,
    )

-- parts at a price, and their sum, read as a difference
part_is : (n : ℕ) (z : ℤ) → up (pos n *ℤ z) + n * down z ≡ down (pos n *ℤ z) + n * up z
part_is n z = omega (arith, product_is (pos n) z)

worth_is : (n : ℕ) (g : ℕ → ℕ) (price : ℕ → ℤ) →
    up (total_z n (λ i. pos (g i) *ℤ price i)) + total n (λ i. g i * down (price i)) ≡ down (total_z n (λ i. pos (g i) *ℤ price i)) + total n (λ i. g i * up (price i))
unfolding total total_z
worth_is zero g price = refl
worth_is (suc n) g price = omega (arith, ints, worth_is n g price, part_is (g n) (price n))

-- the last that gets something, if any does
last_of : (n : ℕ) (g : ℕ → ℕ) → ((i : ℕ) → i < n → g i ≡ 0) ⊎ ((j : ℕ) × (j < n) × (0 < g j) × ((i : ℕ) → j < i → i < n → g i ≡ 0))
last_of zero g = inl (λ i l. absurd (omega arith))
last_of (suc n) g =
    elim (cases_lt 0 (g n)) [
      | inl some ↦ inr (n, omega arith, some, λ i h l. absurd (omega arith))
      | inr none ↦ (
          elim (last_of n g) [
            | inl all ↦ inl (λ i l. (elim (cases_lt i n) [ inl k ↦ all i k | inr k ↦ (let e : i ≡ n = omega arith in rw e (omega arith)) ]))
            | inr t ↦ inr (t.0, omega (arith, t.1), t.2, λ i h l. (elim (cases_lt i n) [ inl k ↦ t.3 i h k | inr k ↦ (let e : i ≡ n = omega arith in rw e (omega arith)) ]))
          ])
    ]

module _ (b : Book) (n : ℕ) where
  -- a level that takes a part leaves something after those above it
  takes : (j : ℕ) → 0 < giving b n j → above b (b.price j) < n
  unfolding giving
  takes j some =
      let p = b.price j in
      elim (cases_lt (above b p) n) [
        | inl l ↦ l
        | inr l ↦ (
            let e : taken b n p ≡ 0 = omega arith in
            let z : giving b n j ≡ 0 = ap (λ t. share t (level b p) (alongside b p) j) e ∙ share_of_none (level b p) (alongside b p) j in
            absurd (omega arith))
      ]

  -- where a bid gets a part, those above it are given whole
  pub filled : (i j : ℕ) → i < b.count → 0 < giving b n j → b.price j <ℤ b.price i → giving b n i ≡ b.size i
  unfolding giving
  filled i j l some h =
      let p = b.price j in
      let q = b.price i in
      let under : above b q + level b q ≤ above b p =
      omega (
        arith,
        total_plus b.count (higher b q) (alongside b q),
        total-le b.count (λ k. higher b q k + alongside b q k) (higher b p) (λ k _. above_both p q (b.price k) (b.size k) h),
      ) in
      let e : taken b n q ≡ level b q = omega (arith, takes j some) in
      ap (λ t. share t (level b q) (alongside b q) i) e ∙ share_of_base (level b q) (alongside b q) i (total_within b.count (alongside b q) i l) ∙ level_own q (b.size i)

-- with as many parts in all, the price that is taken off does not matter
no_better : (b : Book) (g h : ℕ → ℕ) (p : ℤ) → total b.count g ≡ total b.count h →
    ((i : ℕ) → i < b.count → Pays (g i) (h i) (up (b.price i)) (down (b.price i)) (up p) (down p)) → worth b g ≤ℤ worth b h
no_better b g h p e each =
    let all = all_pay b.count g h (λ i. up (b.price i)) (λ i. down (b.price i)) (up p) (down p) each in
    omega (arith, ints, all, ap (λ (t : ℕ). t * up p) e, ap (λ (t : ℕ). t * down p) e, worth_is b.count g b.price, worth_is b.count h b.price)

pub book_best : BookBest
book_best b ranked n g within e =
    elim (last_of b.count (giving b n)) [
      | inl none ↦ no_better b g (giving b n) (pos 0) e (λ i l.
          pays (g i) (giving b n i) (b.price i) (pos 0)
          (λ _. omega (arith, total_within b.count g i l, total-zero b.count (giving b n) none))
          (λ _. omega (arith, none i l)))
      | inr t ↦ no_better b g (giving b n) (b.price t.0) e (λ i l.
          pays (g i) (giving b n i) (b.price i) (b.price t.0)
          (λ high. omega (arith, within i l, filled b n i t.0 l t.2 high))
          (λ low. (elim (cases_lt t.0 i) [
            | inl k ↦ omega (arith, t.3 i k l)
            | inr k ↦ clash_ℤ low (ranked i t.0 k t.1)
          ])))
    ]

pub giving_best : GivingBest
giving_best r sound q h g within e =
    book_best (market r) sound.ranked (bid_filled r q) g within (e ∙ sym (market_covers r sound q h).whole)
