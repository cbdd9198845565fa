-- The theorem of the waterfall: of one bearing, and of one after another.
use Rattle.std.proofs.Common.{◌≡◌, ℕ, ◌+◌, ◌<◌, ◌≤◌, List, [], ◌∷◌, ◌++◌, length, sym, refl, subst, inl, inr, arith}
use Rattle.std.proofs.lemmas.Bool.{cases_lt}
use Rattle.shares.specs.Sums.{total, at}
use Rattle.shares.proofs.Totals.{total_none, total_first, total-minus, total-zero}
use Rattle.tiers.specs.Piles.{Pile, left_at, borne_at, borne_all, Bears}
use Rattle.tiers.specs.Piles.Pile.{one, above}
use Rattle.tiers.specs.Waterfall.{charged, charges, Spent, Balanced, UpperFirst, Settled, BearsEach}
use Rattle.tiers.proofs.Bearing.{spent, bore, left_after, charges_are}

-- ---- one bearing

balanced : (p : Pile) (x : ℕ) (q : Pile) (back : ℕ) → Bears p x q back → Balanced p q
balanced (one left borne) x (one left' borne') back h = λ a k. (h.rises a k, h.falls a k)
balanced (one left borne) x (above u l) back h = absurd h
balanced (above u l) x (one left borne) back h = absurd h
balanced (above u l) x (above u' l') back h = (balanced u x u' h.0 h.1, balanced l h.0 l' back h.2)

upper_first : (p : Pile) (x : ℕ) (q : Pile) (back : ℕ) → Bears p x q back → UpperFirst p q
upper_first (one left borne) x (one left' borne') back h = tt
upper_first (one left borne) x (above u l) back h = absurd h
upper_first (above u l) x (one left borne) back h = absurd h
upper_first (above u l) x (above u' l') back h =
    let upper = bore u x u' h.0 h.1 in
    let lower = bore l h.0 l' back h.2 in (
      upper_first u x u' h.0 h.1,
      upper_first l h.0 l' back h.2,
      λ some. spent u' (omega (arith, left_after u x u' h.0 upper, charges_are l h.0 l' back lower, upper.answers)),
    )

pub settled : (p : Pile) (x : ℕ) (q : Pile) (back : ℕ) → Bears p x q back → Settled p x q back
settled p x q back h =
    let b = bore p x q back h in
    record {
      whole = omega (arith, charges_are p x q back b, b.answers);
      order = upper_first p x q back h;
      last = λ some. spent q (omega (arith, left_after p x q back b, b.answers));
      within = λ a l. omega (arith, b.falls a l, b.rises a l);
      balanced = balanced p x q back h;
    }

-- ---- one bearing after another

-- What is true of each tier is true of the accounts of the whole.
pub accounts : (p q : Pile) → Balanced p q → (a : ℕ) → a < 64 →
    (borne_at p a ≤ borne_at q a) × (left_at q a + borne_at q a ≡ left_at p a + borne_at p a)
accounts (one left borne) (one left' borne') f a h = f a h
accounts (one left borne) (above u l) f a h = absurd f
accounts (above u l) (one left borne) f a h = absurd f
accounts (above u l) (above u' l') f a h =
    let p = accounts u u' f.0 a h in
    let q = accounts l l' f.1 a h in
    (omega arith, omega arith)

-- What has nothing left keeps nothing left.
still_spent : (p q : Pile) → Balanced p q → Spent p → Spent q
still_spent p q f none a h = omega (arith, (accounts p q f a h).0, (accounts p q f a h).1, none a h)

charges_borne : (p q : Pile) → Balanced p q → charges p q + borne_all p ≡ borne_all q
charges_borne p q f = total-minus 64 (borne_at p) (borne_at q) (λ a h. (accounts p q f a h).0)

none_charged : (p : Pile) → charges p p ≡ 0
none_charged p = total-zero 64 (charged p p) (λ a h. omega arith)

charges-add : (p q s : Pile) → Balanced p q → Balanced q s → Balanced p s → charges p s ≡ charges p q + charges q s
charges-add p q s f g k = omega (arith, charges_borne p q f, charges_borne q s g, charges_borne p s k)

balanced_same : (p : Pile) → Balanced p p
balanced_same (one left borne) = λ a h. (omega arith, refl)
balanced_same (above u l) = (balanced_same u, balanced_same l)

balanced_then : (p q s : Pile) → Balanced p q → Balanced q s → Balanced p s
balanced_then (one left borne) (one left' borne') (one left'' borne'') f g = λ a h. let x = f a h in let y = g a h in (omega arith, omega arith)
balanced_then (one left borne) (one left' borne') (above u'' l'') f g = absurd g
balanced_then (one left borne) (above u' l') s f g = absurd f
balanced_then (above u l) (one left' borne') s f g = absurd f
balanced_then (above u l) (above u' l') (one left'' borne'') f g = absurd g
balanced_then (above u l) (above u' l') (above u'' l'') f g =
    (balanced_then u u' u'' f.0 g.0, balanced_then l l' l'' f.1 g.1)

first_same : (p : Pile) → UpperFirst p p
first_same (one left borne) = tt
first_same (above u l) = (first_same u, first_same l, λ some. absurd (omega (arith, none_charged l)))

first_then : (p q s : Pile) → Balanced p q → Balanced q s → UpperFirst p q → UpperFirst q s → UpperFirst p s
first_then (one left borne) (one left' borne') (one left'' borne'') f g o n = tt
first_then (one left borne) (one left' borne') (above u'' l'') f g o n = absurd n
first_then (one left borne) (above u' l') s f g o n = absurd o
first_then (above u l) (one left' borne') s f g o n = absurd o
first_then (above u l) (above u' l') (one left'' borne'') f g o n = absurd n
first_then (above u l) (above u' l') (above u'' l'') f g o n =
    let sum = charges-add l l' l'' f.1 g.1 (balanced_then l l' l'' f.1 g.1) in (
      first_then u u' u'' f.0 g.0 o.0 n.0,
      first_then l l' l'' f.1 g.1 o.1 n.1,
      λ some. elim (cases_lt 0 (charges l' l'')) [
        | inl late ↦ n.2 late
        | inr none ↦ still_spent u' u'' g.0 (o.2 (omega arith))
      ],
    )

-- Nothing borne yet.
pub settled_none : (p : Pile) → Settled p 0 p 0
settled_none p =
    record {
      whole = omega (arith, none_charged p);
      order = first_same p;
      last = λ some. absurd (omega arith);
      within = λ a h. omega arith;
      balanced = balanced_same p;
    }

-- What holds of the losses so far, and of the next, holds of all of them.
pub settled_then : (p : Pile) (x : ℕ) (q : Pile) (back : ℕ) (y : ℕ) (s : Pile) (later : ℕ) →
    Settled p x q back → Settled q y s later → Settled p (x + y) s (back + later)
settled_then p x q back y s later h k =
    let f = balanced_then p q s h.balanced k.balanced in
    let sum = charges-add p q s h.balanced k.balanced f in
    record {
      whole = omega (arith, h.whole, k.whole);
      order = first_then p q s h.balanced k.balanced h.order k.order;
      last = λ some. elim (cases_lt 0 later) [
        | inl late ↦ k.last late
        | inr none ↦ still_spent q s k.balanced (h.last (omega arith))
      ];
      within = λ a l. omega (arith, (accounts p s f a l).0, (accounts p s f a l).1);
      balanced = f;
    }

-- One more loss.
pub bears_more : (p : Pile) (losses : List ℕ) (q : Pile) (back loss : ℕ) (s : Pile) (later : ℕ) →
    BearsEach p losses q back → Bears q loss s later → BearsEach p (losses ++ (loss ∷ [])) s (back + later)
bears_more p [] q back loss s later h k =
    let P : Pile → Type 0 = λ m. Bears m loss s later in
    (s, later, 0, subst P h.0 k, (refl, refl), omega arith)
bears_more p (first ∷ losses) q back loss s later h k =
    (h.0, h.1, h.2 + later, h.3, bears_more h.0 losses q h.2 loss s later h.4 k, omega (arith, h.5))

-- Losses that are borne one after another are borne as their sum is.
pub settled_each : (p : Pile) (losses : List ℕ) (q : Pile) (back : ℕ) → BearsEach p losses q back →
    Settled p (total (length losses) (at losses)) q back
settled_each p [] q back h =
    let none : total 0 (at []) ≡ 0 = total_none (at []) in
    let P : Pile → ℕ → ℕ → Type 0 = λ m x n. Settled p x m n in
    subst (λ (m : Pile). P m (total 0 (at [])) back) (sym h.0)
    (subst (λ (n : ℕ). P p (total 0 (at [])) n) (sym h.1) (subst (λ (x : ℕ). P p x 0) (sym none) (settled_none p)))
settled_each p (loss ∷ losses) q back h =
    let first = settled p loss h.0 h.1 h.3 in
    let later = settled_each h.0 losses q h.2 h.4 in
    let sum : total (length (loss ∷ losses)) (at (loss ∷ losses)) ≡ loss + total (length losses) (at losses) =
    total_first (length losses) (at (loss ∷ losses)) in
    subst (λ (x : ℕ). Settled p x q back) (sym sum)
    (subst (λ (n : ℕ). Settled p (loss + total (length losses) (at losses)) q n) (sym h.5)
    (settled_then p loss h.0 h.1 (total (length losses) (at losses)) q h.2 first later))
