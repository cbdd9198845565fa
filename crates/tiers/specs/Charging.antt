-- Which accounts our two kinds of tier charge, and how much each.
use Rattle.std.specs.Prelude.{◌≡◌, ℕ, ◌+◌, ◌-◌, ◌<◌, min}
use Rattle.shares.specs.Sums.{total}
use Rattle.shares.specs.Shares.{share}
use Rattle.tiers.specs.Piles.{Pile}
use Rattle.tiers.specs.Piles.Pile.{one, above}

-- A rule says what each account is charged, from what each can still bear and the amount to be borne.
abbrev pub Rule : Type 0
Rule = (ℕ → ℕ) → ℕ → ℕ → ℕ

-- In turn: an account bears what those before it leave of the amount, and no more than it can.
abbrev pub in_turn : Rule
in_turn left amount a = min (left a) (amount - total a left)

-- Pro rata: an account bears its running share of what the tier bears, on all that is left.
abbrev pub pro_rata : Rule
pro_rata left amount a = share (min amount (total 64 left)) (total 64 left) left a

-- What a tier leaves of an amount.
abbrev pub rest : (ℕ → ℕ) → ℕ → ℕ
rest left amount = amount - min amount (total 64 left)

-- Each account has been charged: its amount borne rose, and what it can still bear fell, by the charge.
abbrev pub Charged : (left borne charge left' borne' : ℕ → ℕ) → Type 0
Charged left borne charge left' borne' = (a : ℕ) → a < 64 → (borne' a ≡ borne a + charge a) × (left' a + charge a ≡ left a)

-- The tier p has become q by charging its accounts by a rule.
abbrev pub ChargedBy : Rule → Pile → ℕ → Pile → Type 0
ChargedBy rule (one left borne) amount (one left' borne') = Charged left borne (rule left amount) left' borne'
ChargedBy rule (one left borne) amount (above upper lower) = ⊥
ChargedBy rule (above upper lower) amount q = ⊥
