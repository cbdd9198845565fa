-- A pile that bears is, as a whole, a tier that bears.
use Rattle.std.proofs.Common.{◌≡◌, ℕ, ◌+◌, min, arith}
use Rattle.shares.specs.Sums.{total}
use Rattle.shares.proofs.Totals.{total_plus, total_same, total-minus, total_within}
use Rattle.tiers.specs.Piles.{Pile, left_at, borne_at, left_all, borne_all, Bore, Bears}
use Rattle.tiers.specs.Piles.Pile.{one, above}
use Rattle.tiers.specs.Waterfall.{charges, Spent}

-- Nothing is left in all: nothing is left anywhere.
pub spent : (p : Pile) → left_all p ≡ 0 → Spent p
spent p none a h = omega (arith, total_within 64 (left_at p) a h)

-- One above another bears as one tier.
pub bore_above : (u l u' l' : Pile) (x between back : ℕ) → Bore u x u' between → Bore l between l' back →
    Bore (above u l) x (above u' l') back
bore_above u l u' l' x between back p q =
    let left : left_all (above u l) ≡ left_all u + left_all l = total_plus 64 (left_at u) (left_at l) in
    let before : borne_all (above u l) ≡ borne_all u + borne_all l = total_plus 64 (borne_at u) (borne_at l) in
    let after : borne_all (above u' l') ≡ borne_all u' + borne_all l' = total_plus 64 (borne_at u') (borne_at l') in
    record {
      rises = λ a h. omega (arith, p.rises a h, q.rises a h);
      falls = λ a h. omega (arith, p.falls a h, q.falls a h);
      bears = omega arith;
      answers = omega arith;
    }

pub bore : (p : Pile) (x : ℕ) (q : Pile) (back : ℕ) → Bears p x q back → Bore p x q back
bore (one left borne) x (one left' borne') back h = h
bore (one left borne) x (above u l) back h = absurd h
bore (above u l) x (one left borne) back h = absurd h
bore (above u l) x (above u' l') back h =
    bore_above u l u' l' x h.0 back (bore u x u' h.0 h.1) (bore l h.0 l' back h.2)

-- What is left once the amount is borne.
pub left_after : (p : Pile) (x : ℕ) (q : Pile) (back : ℕ) → Bore p x q back → left_all q + min x (left_all p) ≡ left_all p
left_after p x q back h =
    let before : total 64 (λ a. left_at p a + borne_at p a) ≡ left_all p + borne_all p = total_plus 64 (left_at p) (borne_at p) in
    let after : total 64 (λ a. left_at q a + borne_at q a) ≡ left_all q + borne_all q = total_plus 64 (left_at q) (borne_at q) in
    let same : total 64 (λ a. left_at q a + borne_at q a) ≡ total 64 (λ a. left_at p a + borne_at p a) = total_same 64 _ _ h.falls in
    omega (arith, h.bears)

-- What all accounts are charged.
pub charges_are : (p : Pile) (x : ℕ) (q : Pile) (back : ℕ) → Bore p x q back → charges p q ≡ min x (left_all p)
charges_are p x q back h = omega (arith, h.bears, total-minus 64 (borne_at p) (borne_at q) h.rises)
