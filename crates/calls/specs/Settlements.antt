-- Settlements: the loss, the pile that bears it, and what is answered and kept.
use Rattle.std.specs.Prelude.{ℕ, ◌-◌, min, Bool, ◌||◌, ℤ, pos, negsuc, ◌-ℤ◌, Some, None, Option, nat_lt}
use Rattle.rules.specs.declared.stage.Stage.TheVariants.{Settled}
use Rattle.tiers.specs.Piles.{Pile, left_all}
use Rattle.tiers.specs.OwnPile.{Rows, own_rows, new_pile, pile_after, own_charge}
use Rattle.calls.specs.declared.outcome.Outcome.{Outcome}
use Rattle.calls.specs.State.{State}
use Rattle.calls.specs.Held.{brought, junior_of, senior_of}

-- over a pile that is given, with what it was just before and what it is just after; or over our own
pub data Settlement : Type 0 where
  over : (hedging : ℕ) (before after : Pile) → Settlement
  own : (hedging cash pledges share : ℕ) → Settlement

-- the hedging cost
abbrev pub hedged : Settlement → ℕ
hedged (over hedging p q) = hedging
hedged (own hedging cash pledges share) = hedging

-- each amount is 10^10 at most
abbrev pub pasts : ℕ → Bool
pasts amount = nat_lt 10000000000 amount

abbrev pub amount_pasts : Settlement → Bool
amount_pasts (over hedging p q) = pasts hedging
amount_pasts (own hedging cash pledges share) = pasts hedging || (pasts cash || (pasts pledges || pasts share))

-- an amount, or 0 if it is negative
abbrev pub or_none : ℤ → ℕ
or_none (pos n) = n
or_none (negsuc n) = 0

-- what the hedging cost passes the transfers by
unfoldable pub loss : State → Settlement → ℕ
loss s x = or_none (pos (hedged x) -ℤ brought s)

-- what the transfers pass the hedging cost by
unfoldable pub surplus : State → Settlement → ℕ
surplus s x = or_none (brought s -ℤ pos (hedged x))

-- what our own pile can bear: the three amounts, and the members' junior and senior parts
abbrev pub own_of : State → (cash pledges share : ℕ) → Rows
own_of s cash pledges share = own_rows cash pledges share (junior_of s) (senior_of s)

-- the pile just before the settlement
abbrev pub pile_before : State → Settlement → Pile
pile_before s (over hedging p q) = p
pile_before s (own hedging cash pledges share) = new_pile (own_of s cash pledges share)

-- and just after
abbrev pub pile_then : State → Settlement → Pile
pile_then s (over hedging p q) = q
pile_then s (own hedging cash pledges share) = pile_after (own_of s cash pledges share) (loss s (own hedging cash pledges share))

-- what the pile cannot bear of the loss
unfoldable pub unborne_of : State → Settlement → ℕ
unborne_of s x = loss s x - min (loss s x) (left_all (pile_before s x))

-- what is answered
abbrev pub outcome_of : State → Settlement → Outcome
outcome_of s x = record { loss = loss s x; unborne = unborne_of s x; surplus = surplus s x }

-- the charges that are kept: those of our own pile alone
abbrev pub charges_of : State → Settlement → Option (ℕ → ℕ)
charges_of s (over hedging p q) = None
charges_of s (own hedging cash pledges share) =
    Some (own_charge (own_of s cash pledges share) (loss s (own hedging cash pledges share)))

abbrev pub settled_with : Settlement → State → State
settled_with x s = record {
  multiplier = s.multiplier;
  stage = Settled;
  members = s.members;
  packages = s.packages;
  outcome = Some (outcome_of s x);
  charges = charges_of s x;
}
