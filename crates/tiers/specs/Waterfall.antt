-- What holds whenever a pile has borne a loss, or several in a row: the theorem of the waterfall.
use Rattle.std.specs.Prelude.{◌≡◌, ℕ, ◌+◌, ◌-◌, ◌<◌, ◌≤◌, List, [], ◌∷◌}
use Rattle.shares.specs.Sums.{total}
use Rattle.tiers.specs.Piles.{Pile, left_at, borne_at, Bears}
use Rattle.tiers.specs.Piles.Pile.{one, above}

-- What an account is charged where p becomes q: the rise of its true amount borne.
abbrev pub charged : Pile → Pile → ℕ → ℕ
charged p q a = borne_at q a - borne_at p a

-- What all accounts are charged.
abbrev pub charges : Pile → Pile → ℕ
charges p q = total 64 (charged p q)

-- No account has anything left.
abbrev pub Spent : Pile → Type 0
Spent p = (a : ℕ) → a < 64 → left_at p a ≡ 0

-- In every tier, at any depth: no amount borne has fallen, and what is left has fallen by what the amount borne rose.
abbrev pub Balanced : Pile → Pile → Type 0
Balanced (one left borne) (one left' borne') =
    (a : ℕ) → a < 64 → (borne a ≤ borne' a) × (left' a + borne' a ≡ left a + borne a)
Balanced (one left borne) (above upper lower) = ⊥
Balanced (above upper lower) (one left borne) = ⊥
Balanced (above upper lower) (above upper' lower') = Balanced upper upper' × Balanced lower lower'

-- Wherever one pile is set above another, at any depth: the lower is charged only if the upper then has nothing left.
abbrev pub UpperFirst : Pile → Pile → Type 0
UpperFirst (one left borne) (one left' borne') = Unit {0}
UpperFirst (one left borne) (above upper lower) = ⊥
UpperFirst (above upper lower) (one left borne) = ⊥
UpperFirst (above upper lower) (above upper' lower') =
    UpperFirst upper upper' × UpperFirst lower lower' × (0 < charges lower lower' → Spent upper')

-- The pile p has become q over a loss, or over losses that sum to it, and `back` came back.
pub record Settled (p : Pile) (loss : ℕ) (q : Pile) (back : ℕ) : Type 0 where
  -- charges and what comes back make the loss
  pub whole : charges p q + back ≡ loss
  pub order : UpperFirst p q
  -- something comes back only if no account then has anything left
  pub last : 0 < back → Spent q
  -- no account is charged past what it could bear
  pub within : (a : ℕ) → a < 64 → charged p q a ≤ left_at p a
  pub balanced : Balanced p q

-- The pile p has become q by bearing the losses one after another, and `back` came back in all.
abbrev pub BearsEach : Pile → List ℕ → Pile → ℕ → Type 0
BearsEach p [] q back = (q ≡ p) × (back ≡ 0)
BearsEach p (loss ∷ losses) q back =
    (between : Pile) × (first later : ℕ) × Bears p loss between first × BearsEach between losses q later × (back ≡ first + later)
