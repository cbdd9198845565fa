-- What the four tiers of our own pile hold, the pile that they are, and how it is made.
use Rattle.std.specs.Prelude.{◌≡◌}
use Rattle.rules.specs.declared.refusal.Refusal.{Refusal}
use Rattle.rules.specs.declared.refusal.Refusal.TheVariants.{OutsideLimits}
use Rattle.shares.specs.Sums.{at}
use Rattle.tiers.specs.Piles.{Pile, Alike}
use Rattle.tiers.specs.Charging.{in_turn, pro_rata}
use Rattle.tiers.specs.Meanings.{left_in, borne_in}
use Rattle.tiers.specs.OwnPile.{Rows, own_rows, InLimits, four_tiers, new_pile}
use Rattle.tiers.specs.declared.above.Above.{Above}
use Rattle.tiers.specs.declared.own.OwnAmounts.{OwnAmounts}
use Rattle.tiers.specs.declared.in_turn.ByTurns.{ByTurns}
use Rattle.tiers.specs.declared.pro_rata.ByShares.{ByShares}
use Rattle.tiers.specs.declared.ruled.Ruled.{Ruled}

-- A tier with its rule and its largest capacity.
abbrev pub InTurn : Type 0
InTurn = Ruled ByTurns (record { rule = in_turn; MOST = 10000000000 })

abbrev pub ProRata : Type 0
ProRata = Ruled ByShares (record { rule = pro_rata; MOST = 25000000 })

abbrev pub FourTiers : Type 0
FourTiers = Above InTurn (Above InTurn (Above ProRata ProRata))

-- What each account can still bear in each tier.
abbrev pub left_rows : FourTiers → Rows
left_rows tiers = record {
  estate = left_in tiers.upper.accounts;
  own_share = left_in tiers.lower.upper.accounts;
  juniors = left_in tiers.lower.lower.upper.accounts;
  seniors = left_in tiers.lower.lower.lower.accounts;
}

-- What each account has borne in each tier.
abbrev pub borne_rows : FourTiers → Rows
borne_rows tiers = record {
  estate = borne_in tiers.upper.accounts;
  own_share = borne_in tiers.lower.upper.accounts;
  juniors = borne_in tiers.lower.lower.upper.accounts;
  seniors = borne_in tiers.lower.lower.lower.accounts;
}

abbrev pub pile_of : FourTiers → Pile
pile_of tiers = four_tiers (left_rows tiers) (borne_rows tiers)

-- What each account can bear in each tier that is made of these amounts.
abbrev pub rows_of : OwnAmounts → Rows
rows_of amounts =
    own_rows amounts.estate_cash amounts.estate_pledges amounts.own_share (at amounts.juniors.now) (at amounts.seniors.now)

-- The amounts are within the limits of capacities.
abbrev pub AllInLimits : OwnAmounts → Type 0
AllInLimits amounts =
    InLimits amounts.estate_cash amounts.estate_pledges amounts.own_share (at amounts.juniors.now) (at amounts.seniors.now)

-- It is made of amounts within their limits, with nothing borne.
pub record OwnMade (amounts : OwnAmounts) (tiers : FourTiers) : Type 0 where
  pub in_limits : AllInLimits amounts
  pub means : Alike (pile_of tiers) (new_pile (rows_of amounts))

-- It is refused where an amount is outside its limits.
pub record OwnRefused (amounts : OwnAmounts) (cause : Refusal) : Type 0 where
  pub passes : AllInLimits amounts → ⊥
  pub outside : cause ≡ OutsideLimits
