-- Levels are served in turn, and the round price divides the bids.
use Rattle.std.proofs.Common.{◌≡◌, ℕ, zero, suc, ◌-◌, ◌<◌, cond, ◌⊎◌, length, ℤ, ◌<ℤ◌, sym, refl, ap, ◌∙◌, subst, inl, inr, arith}
use lib.Signed.{clash_ℤ}
use Rattle.std.proofs.lemmas.Bool.{cases_lt, lt-ltb, le-ltb}
use Rattle.shares.specs.Sums.{total}
use Rattle.shares.specs.Shares.{share}
use Rattle.shares.proofs.Totals.{total_within, total-zero}
use Rattle.shares.proofs.Sharing.{share_of_none, share_of_base}
use Rattle.rules.specs.Books.{above, alongside, level, taken, giving}
use Rattle.rules.specs.Rounds.{market, bid_filled, givings, last_given, round_price}
use Rattle.rules.specs.RoundLaws.{LevelsInTurn, PriceDivides}
use Rattle.rules.proofs.Prices.{level_own}
use Rattle.rules.proofs.Dividing.{market_covers}
use Rattle.rules.proofs.Best.{filled}

pub levels_in_turn : LevelsInTurn
unfolding giving
levels_in_turn b n i l =
    let p = b.price i in
    let of : ℕ → ℕ = λ t. share t (level b p) (alongside b p) i in
    record {
      fits = λ h.
          (let e : taken b n p ≡ level b p = omega arith in
          ap of e ∙ share_of_base (level b p) (alongside b p) i (total_within b.count (alongside b p) i l) ∙ level_own p (b.size i));
      gone = λ h. (let e : taken b n p ≡ 0 = omega arith in ap of e ∙ share_of_none (level b p) (alongside b p) i);
      partly = λ h k. (let e : taken b n p ≡ n - above b p = omega arith in ap of e);
    }

-- p is the price of the last of the first n that gets a part
record Last (g : ℕ → ℕ) (price : ℕ → ℤ) (n : ℕ) (p : ℤ) : Type 0 where
  place : ℕ
  inside : place < n
  part : 0 < g place
  rest : (i : ℕ) → place < i → i < n → g i ≡ 0
  is : p ≡ price place

last_is : (g : ℕ → ℕ) (price : ℕ → ℤ) (p : ℤ) (n : ℕ) → (((i : ℕ) → i < n → g i ≡ 0) × (last_given g price p n ≡ p)) ⊎ Last g price n (last_given g price p n)
last_is g price p zero = inl (λ i l. absurd (omega arith), refl)
last_is g price p (suc n) =
    elim (cases_lt 0 (g n)) [
      | inl some ↦ inr (record {
        place = n;
        inside = omega arith;
        part = some;
        rest = λ i h l. absurd (omega arith);
        is = ap (λ t. cond t (price n) (last_given g price p n)) (lt-ltb 0 (g n) some);
      })
      | inr none ↦ (
          let e : last_given g price p (suc n) ≡ last_given g price p n = ap (λ t. cond t (price n) (last_given g price p n)) (le-ltb 0 (g n) none) in
          elim (last_is g price p n) [
            | inl t ↦ inl (λ i l. (elim (cases_lt i n) [ inl k ↦ t.0 i k | inr k ↦ (let at : i ≡ n = omega arith in rw at (omega arith)) ]), e ∙ t.1)
            | inr t ↦ inr (record {
              place = t.place;
              inside = omega (arith, t.inside);
              part = t.part;
              rest = λ i h l. (elim (cases_lt i n) [ inl k ↦ t.rest i h k | inr k ↦ (let at : i ≡ n = omega arith in rw at (omega arith)) ]);
              is = e ∙ t.is;
            })
          ])
    ]

pub price_divides : PriceDivides
unfolding round_price
price_divides r sound q h =
    let b = market r in
    let g : ℕ → ℕ = givings r q in
    let k = length r.bids in
    let whole : total k g ≡ bid_filled r q = (market_covers r sound q h).whole in
    elim (last_is g b.price r.reference k) [
      | inl t ↦ (
          let none : bid_filled r q ≡ 0 = sym whole ∙ total-zero k g t.0 in
          record {
            higher = λ i l some _. absurd (omega arith);
            lower = λ i l some _. absurd (omega arith);
            stands = λ some. absurd (omega arith);
            idle = λ _. t.1;
          })
      | inr t ↦ record {
        higher = λ i l some high. filled b (bid_filled r q) i t.place l t.part (subst (λ (p : ℤ). p <ℤ b.price i) t.is high);
        lower = λ i l some low. (elim (cases_lt t.place i) [
          | inl m ↦ t.rest i m l
          | inr m ↦ clash_ℤ (subst (λ (p : ℤ). b.price i <ℤ p) t.is low) (sound.ranked i t.place m t.inside)
        ]);
        stands = λ some. (t.place, t.inside, t.part, t.is);
        idle = λ none. absurd (omega (arith, total_within k g t.place t.inside, t.part));
      }
    ]
