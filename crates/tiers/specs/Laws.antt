-- Laws of piles, of the two kinds of tier, and of our own pile.
use Rattle.std.specs.Prelude.{◌≡◌, ℕ, ◌+◌, ◌<◌, ◌≤◌, min}
use Rattle.shares.specs.Sums.{total}
use Rattle.tiers.specs.Piles.{Pile, told, Bore, Bears}
use Rattle.tiers.specs.Waterfall.{charged, Settled}
use Rattle.tiers.specs.Charging.{Rule, in_turn}
use Rattle.tiers.specs.OwnPile.{Rows, own_rows, unborne, own_charges, own_charge, new_pile, pile_after}

-- A pile of any depth is again a tier: as a whole it bears as one.
abbrev pub AgainATier : Type 0
AgainATier = (p : Pile) (x : ℕ) (q : Pile) (back : ℕ) → Bears p x q back → Bore p x q back

-- Whatever a pile bears is borne from the top.
abbrev pub Waterfall : Type 0
Waterfall = (p : Pile) (x : ℕ) (q : Pile) (back : ℕ) → Bears p x q back → Settled p x q back

-- A sum of two told amounts, told again, is the true sum as it is told.
abbrev pub ToldOnce : Type 0
ToldOnce = (a b : ℕ) → told (told a + told b) ≡ told (a + b)

-- ---- the two kinds

-- No account is charged past what it can bear.
abbrev pub ChargeWithin : Rule → Type 0
ChargeWithin rule = (left : ℕ → ℕ) (amount a : ℕ) → rule left amount a ≤ left a

-- The charges come to the amount, or to all that is left.
abbrev pub ChargesWhole : Rule → Type 0
ChargesWhole rule = (left : ℕ → ℕ) (amount : ℕ) → total 64 (rule left amount) ≡ min amount (total 64 left)

-- A rule by which a tier may charge.
pub record Lawful (rule : Rule) : Type 0 where
  pub within : ChargeWithin rule
  pub whole : ChargesWhole rule

-- An account is charged in turn only if each before it is charged to its end.
abbrev pub InTurnOrder : Type 0
InTurnOrder = (left : ℕ → ℕ) (amount a b : ℕ) → a < b → 0 < in_turn left amount b → in_turn left amount a ≡ left a

-- ---- our own pile

-- A new pile bears a loss as a pile does, and what comes back is the unborne loss.
abbrev pub OwnPileBears : Type 0
OwnPileBears = (capacity : Rows) (loss : ℕ) → Bears (new_pile capacity) loss (pile_after capacity loss) (unborne capacity loss)

-- An account is charged what its four charges come to.
abbrev pub OwnChargeIs : Type 0
OwnChargeIs = (capacity : Rows) (loss a : ℕ) → charged (new_pile capacity) (pile_after capacity loss) a ≡ own_charge capacity loss a

-- A member with no junior part is charged only if every junior part is spent.
abbrev pub JuniorsFirst : Type 0
JuniorsFirst =
    (cash pledges share : ℕ) (juniors seniors : ℕ → ℕ) (loss m : ℕ) → m < 60 → juniors m ≡ 0 →
    0 < own_charge (own_rows cash pledges share juniors seniors) loss m →
    (a : ℕ) → a < 60 → (own_charges (own_rows cash pledges share juniors seniors) loss).juniors a ≡ juniors a
