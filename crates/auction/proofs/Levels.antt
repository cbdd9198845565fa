-- What a bid gets of what its level takes.
use Rattle.std.proofs.Common.{◌≡◌, ℕ, ◌+◌, ◌-◌, ◌<◌, ◌≤◌, min, Bool, Option, Some, None, MatchOption, IsSome, List, length, take, ℤ, refl, sym, ap, ◌∙◌, arith, length-take-le, get_or-take}
use Rattle.shares.specs.Sums.{total}
use Rattle.shares.specs.Shares.{share}
use Rattle.shares.specs.Outcomes.{Shared}
use Rattle.shares.proofs.Totals.{total_more, total_grows, total_same}
use Rattle.rules.specs.declared.bid.Bid.{Bid}
use Rattle.rules.specs.Amounts.{when}
use Rattle.rules.specs.Rounds.{bid_at, is_market, market_size, no_bid}
use Rattle.rules.specs.Books.{Book, alongside, level, above, taken, giving}
use Rattle.rules.proofs.Prices.{level_own}

module _ (b : Book) (n i : ℕ) (inside : i < b.count) (whole high part before own : ℕ)
    (el : whole ≡ level b (b.price i)) (eh : high ≡ above b (b.price i)) (et : part ≡ min whole (n - high))
    (eb : before ≡ total i (alongside b (b.price i))) (eo : own ≡ b.size i) where
  own_here : alongside b (b.price i) i ≡ own
  own_here = level_own (b.price i) (b.size i) ∙ sym eo

  fits : before + own ≤ whole
  fits = omega (arith, total_more i (alongside b (b.price i)), total_grows (i + 1) b.count (alongside b (b.price i)) (omega arith), own_here)

  given_is : (got : ℕ) → Shared part whole before own got → got ≡ giving b n i
  unfolding giving
  given_is got s =
      let same : part ≡ taken b n (b.price i) = et ∙ ap (λ (k : ℕ). min k (n - high)) el ∙ ap (λ (k : ℕ). min (level b (b.price i)) (n - k)) eh in
      s.is (alongside b (b.price i)) i (sym eb) own_here
      ∙ ap (λ (k : ℕ). share k whole (alongside b (b.price i)) i) same
      ∙ ap (λ (k : ℕ). share (taken b n (b.price i)) k (alongside b (b.price i)) i) el

  -- it is never refused
  pub given_some : (r : Option ℕ) → MatchOption r (whole < before + own) (Shared part whole before own) → IsSome r
  given_some None refused = absurd (omega (arith, fits))
  given_some (Some got) s = refl

  pub given : (got : ℕ) → Shared part whole before own got → (got ≡ giving b n i) × (got ≤ own)
  given got s = (given_is got s, s.low (omega arith))

-- the sizes in front of bid i
pub front : (bids : List Bid) (mark : ℤ) (margin i : ℕ) (p : Bid → Bool) → i ≤ length bids →
    total (length (take i bids)) (λ k. when (p (bid_at (take i bids) k)) (market_size (take i bids) mark margin k)) ≡ total i (λ k. when (p (bid_at bids k)) (market_size bids mark margin k))
unfolding market_size
front bids mark margin i p h =
    ap (λ (n : ℕ). total n (λ k. when (p (bid_at (take i bids) k)) (market_size (take i bids) mark margin k))) (length-take-le i bids h)
    ∙ total_same i (λ k. when (p (bid_at (take i bids) k)) (market_size (take i bids) mark margin k)) (λ k. when (p (bid_at bids k)) (market_size bids mark margin k))
    (λ k l. ap (λ (x : Bid). when (p x) (when (is_market mark margin x.price) x.size)) (get_or-take i bids k no_bid l))
