-- The worked default: what its loss charges in our own pile, figure by figure.
use Rattle.std.specs.Prelude.{◌≡◌, [], ◌∷◌}
use Rattle.shares.specs.Sums.{at}
use Rattle.tiers.specs.OwnPile.{Rows, own_rows, to_own_share, to_juniors, to_seniors, unborne, own_charges, own_charge}

-- Estate cash 1,000 and pledges 2,000, own share 1,500; contributions 600, 300, 100 with junior parts 0, 0, 100.
abbrev pub worked_rows : Rows
worked_rows = own_rows 1000 2000 1500 (at (0 ∷ 0 ∷ 100 ∷ [])) (at (600 ∷ 300 ∷ 0 ∷ []))

-- A loss of 5,000, 4,500 paid out and 500 of hedging: what each account is charged.
pub record WorkedCharges : Type 0 where
  pub account_0 : own_charge worked_rows 5000 0 ≡ 266
  pub account_1 : own_charge worked_rows 5000 1 ≡ 134
  pub account_2 : own_charge worked_rows 5000 2 ≡ 100
  pub account_60 : own_charge worked_rows 5000 60 ≡ 1000
  pub account_61 : own_charge worked_rows 5000 61 ≡ 2000
  pub account_62 : own_charge worked_rows 5000 62 ≡ 1500
  pub none_unborne : unborne worked_rows 5000 ≡ 0

-- Tier by tier: what it charges, and what comes back from it.
pub record WorkedTiers : Type 0 where
  pub cash : (own_charges worked_rows 5000).estate 60 ≡ 1000
  pub pledges : (own_charges worked_rows 5000).estate 61 ≡ 2000
  pub past_estate : to_own_share worked_rows 5000 ≡ 2000
  pub own_share : (own_charges worked_rows 5000).own_share 62 ≡ 1500
  pub past_own_share : to_juniors worked_rows 5000 ≡ 500
  pub junior_2 : (own_charges worked_rows 5000).juniors 2 ≡ 100
  pub past_juniors : to_seniors worked_rows 5000 ≡ 400
  pub senior_0 : (own_charges worked_rows 5000).seniors 0 ≡ 266
  pub senior_1 : (own_charges worked_rows 5000).seniors 1 ≡ 134
  pub senior_2 : (own_charges worked_rows 5000).seniors 2 ≡ 0

-- The pile holds 5,500: a loss of 500 more is borne, one of 501 more leaves 1.
pub record WorkedEdge : Type 0 where
  pub borne : unborne worked_rows 5500 ≡ 0
  pub one_left : unborne worked_rows 5501 ≡ 1
