-- The row of second minimums.
use Rattle.std.proofs.Common.{◌≡◌, ℕ, ◌+◌, ◌-◌, ◌<◌, ◌≤◌, min, eqb, List, ap, ◌∙◌, arith}
use Rattle.shares.specs.Sums.{at, total}
use Rattle.shares.specs.Shares.{share}
use Rattle.shares.proofs.Totals.{total_same}
use Rattle.shares.proofs.Sharing.{share_same}
use Rattle.rules.specs.Amounts.{when}
use Rattle.rules.specs.Rounds.{Round, Sound}
use Rattle.rules.specs.Residuals.{credit, rising, rise, second_minimum, cut_allotment}
use Rattle.rules.proofs.Credits.{second_minimums_cover, second_minimums_bounded, second_none}
use Rattle.auction.specs.Rows.{Row}
use Rattle.auction.specs.Seconds.{AskedAgain}
use Rattle.auction.proofs.Showing.{row_same, row_total}

pub raised : (m : ℕ) (minimum allotted : ℕ → ℕ) (credits risings rises row : List ℕ) (all base : ℕ) → m ≤ 64 →
    Row m (credit minimum allotted) credits → Row m (λ a. when (eqb (at credits a) 0) (minimum a)) risings → all ≡ total 64 (at credits) → base ≡ total 64 (at risings) →
    ((a : ℕ) → at rises a ≡ share all base (at risings) a) → Row m (λ a. min 1000000 (minimum a - at credits a + at rises a)) row → Row m (second_minimum m minimum allotted) row
unfolding second_minimum
raised m minimum allotted credits risings rises row all base few ec er ea eb es ew =
    let up : Row m (rising minimum allotted) risings = row_same _ _ _ er (rising minimum allotted) (λ k h. ap (λ (c : ℕ). when (eqb c 0) (minimum k)) (ec.shows k h)) in
    let rose : (a : ℕ) → a < m → at rises a ≡ rise m minimum allotted a = λ a l.
    es a ∙ share_same all base (at risings) (rising minimum allotted) m up.shows a l
    ∙ ap (λ (t : ℕ). share t base (rising minimum allotted) a) (ea ∙ row_total _ _ _ ec 64 few)
    ∙ ap (λ (t : ℕ). share (total m (credit minimum allotted)) t (rising minimum allotted) a) (eb ∙ row_total _ _ _ up 64 few) in
    row_same _ _ _ ew (second_minimum m minimum allotted)
    (λ a l. ap (λ (c : ℕ). min 1000000 (minimum a - c + at rises a)) (ec.shows a l) ∙ ap (λ (n : ℕ). min 1000000 (minimum a - credit minimum allotted a + n)) (rose a l))

-- equal allotments make equal second minimums
module _ (m : ℕ) (minimum f g : ℕ → ℕ) (same : (a : ℕ) → a < m → f a ≡ g a) where
  credit_same : (a : ℕ) → a < m → credit minimum f a ≡ credit minimum g a
  credit_same a l = ap (λ (x : ℕ). min (minimum a) (x - minimum a)) (same a l)

  rising_same : (a : ℕ) → a < m → rising minimum f a ≡ rising minimum g a
  rising_same a l = ap (λ (c : ℕ). when (eqb c 0) (minimum a)) (credit_same a l)

  rise_same : (a : ℕ) → a < m → rise m minimum f a ≡ rise m minimum g a
  rise_same a l =
      share_same (total m (credit minimum f)) (total m (rising minimum f)) (rising minimum f) (rising minimum g) m rising_same a l
      ∙ ap (λ (t : ℕ). share t (total m (rising minimum f)) (rising minimum g) a) (total_same m (credit minimum f) (credit minimum g) credit_same)
      ∙ ap (λ (t : ℕ). share (total m (credit minimum g)) t (rising minimum g) a) (total_same m (rising minimum f) (rising minimum g) rising_same)

  second_same : (a : ℕ) → a < m → second_minimum m minimum f a ≡ second_minimum m minimum g a
  unfolding second_minimum
  second_same a l =
      ap (λ (c : ℕ). min 1000000 (minimum a - c + rise m minimum f a)) (credit_same a l) ∙ ap (λ (n : ℕ). min 1000000 (minimum a - credit minimum g a + n)) (rise_same a l)

pub asked_again : (r : Round) (residual : ℕ) (allots row : List ℕ) → Sound r → Row r.members (cut_allotment r residual) allots →
    Row r.members (second_minimum r.members r.minimum (at allots)) row → AskedAgain r residual row
asked_again r residual allots row sound ea so =
    let shows : (a : ℕ) → a < r.members → at row a ≡ second_minimum r.members r.minimum (cut_allotment r residual) a =
    λ a l. so.shows a l ∙ second_same r.members r.minimum (at allots) (cut_allotment r residual) ea.shows a l in
    record {
      shown = record { shows = shows; blank = so.blank };
      low = λ a l. omega (arith, shows a l, second_minimums_bounded r residual a);
      covering = omega (arith, second_minimums_cover r sound residual, total_same r.members (at row) (second_minimum r.members r.minimum (cut_allotment r residual)) shows);
      none = λ a l e. shows a l ∙ second_none r.members r.minimum (cut_allotment r residual) a e;
    }
