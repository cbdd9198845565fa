-- Our own pile: its four tiers, and what a loss charges each account in each of them.
use Rattle.std.specs.Prelude.{◌≡◌, ℕ, ◌+◌, ◌-◌, ◌<◌, ◌≤◌, cond, List, length, ◌==◌, nat_lt}
use Rattle.shares.specs.Sums.{total, at}
use Rattle.tiers.specs.Piles.{Pile}
use Rattle.tiers.specs.Piles.Pile.{one, above}
use Rattle.tiers.specs.Waterfall.{charged, Settled}
use Rattle.tiers.specs.Charging.{in_turn, pro_rata, rest, Charged}

-- An amount for each account in each tier, from the top.
pub record Rows : Type 0 where
  pub estate : ℕ → ℕ
  pub own_share : ℕ → ℕ
  pub juniors : ℕ → ℕ
  pub seniors : ℕ → ℕ

-- ---- what the accounts can bear

-- Account 60 has the estate's cash, account 61 its pledges.
abbrev pub estate_row : (cash pledges : ℕ) → ℕ → ℕ
estate_row cash pledges a = cond (a == 60) cash (cond (a == 61) pledges 0)

-- Account 62 has the cooperative's own share.
abbrev pub own_share_row : ℕ → ℕ → ℕ
own_share_row amount a = cond (a == 62) amount 0

-- Accounts 0 to 59 have the members' parts.
abbrev pub member_row : (ℕ → ℕ) → ℕ → ℕ
member_row parts a = cond (nat_lt a 60) (parts a) 0

abbrev pub own_rows : (cash pledges share : ℕ) (juniors seniors : ℕ → ℕ) → Rows
own_rows cash pledges share juniors seniors = record {
  estate = estate_row cash pledges;
  own_share = own_share_row share;
  juniors = member_row juniors;
  seniors = member_row seniors;
}

-- The amounts are within the limits of capacities.
pub record InLimits (cash pledges share : ℕ) (juniors seniors : ℕ → ℕ) : Type 0 where
  pub cash_low : cash ≤ 10000000000
  pub pledges_low : pledges ≤ 10000000000
  pub share_low : share ≤ 10000000000
  pub juniors_low : (a : ℕ) → a < 60 → juniors a ≤ 25000000
  pub seniors_low : (a : ℕ) → a < 60 → seniors a ≤ 25000000

-- ---- what a loss charges

-- What each tier is asked to bear of a loss: what comes back from the tier above it.
abbrev pub to_own_share : Rows → ℕ → ℕ
to_own_share left loss = rest left.estate loss

abbrev pub to_juniors : Rows → ℕ → ℕ
to_juniors left loss = rest left.own_share (to_own_share left loss)

abbrev pub to_seniors : Rows → ℕ → ℕ
to_seniors left loss = rest left.juniors (to_juniors left loss)

-- What comes back from the lowest.
abbrev pub unborne : Rows → ℕ → ℕ
unborne left loss = rest left.seniors (to_seniors left loss)

-- What each account is charged in each tier, where `left` is what it can still bear there: two tiers in turn, two pro rata.
abbrev pub own_charges : Rows → ℕ → Rows
own_charges left loss = record {
  estate = in_turn left.estate loss;
  own_share = in_turn left.own_share (to_own_share left loss);
  juniors = pro_rata left.juniors (to_juniors left loss);
  seniors = pro_rata left.seniors (to_seniors left loss);
}

-- What an account has in all four tiers.
abbrev pub in_all : Rows → ℕ → ℕ
in_all rows a = rows.estate a + (rows.own_share a + (rows.juniors a + rows.seniors a))

-- What an account is charged in all.
abbrev pub own_charge : Rows → ℕ → ℕ → ℕ
own_charge left loss = in_all (own_charges left loss)

-- Each account has been charged in each tier.
pub record EachCharged (left borne charge left' borne' : Rows) : Type 0 where
  pub estate : Charged left.estate borne.estate charge.estate left'.estate borne'.estate
  pub own_share : Charged left.own_share borne.own_share charge.own_share left'.own_share borne'.own_share
  pub juniors : Charged left.juniors borne.juniors charge.juniors left'.juniors borne'.juniors
  pub seniors : Charged left.seniors borne.seniors charge.seniors left'.seniors borne'.seniors

-- ---- as a pile

-- The estate above the own share above the junior parts above the senior parts.
abbrev pub four_tiers : (left borne : Rows) → Pile
four_tiers left borne =
    above (one left.estate borne.estate)
    (above (one left.own_share borne.own_share) (above (one left.juniors borne.juniors) (one left.seniors borne.seniors)))

abbrev pub no_rows : Rows
no_rows = record { estate = λ _. 0; own_share = λ _. 0; juniors = λ _. 0; seniors = λ _. 0 }

abbrev pub less : Rows → Rows → Rows
less rows fewer = record {
  estate = λ a. rows.estate a - fewer.estate a;
  own_share = λ a. rows.own_share a - fewer.own_share a;
  juniors = λ a. rows.juniors a - fewer.juniors a;
  seniors = λ a. rows.seniors a - fewer.seniors a;
}

-- Our own pile made new, with nothing borne.
abbrev pub new_pile : Rows → Pile
new_pile capacity = four_tiers capacity no_rows

-- The same after a loss.
abbrev pub pile_after : Rows → ℕ → Pile
pile_after capacity loss = four_tiers (less capacity (own_charges capacity loss)) (own_charges capacity loss)

-- The four tiers have borne a loss, and `back` came back.
pub record OwnBore (left borne : Rows) (loss : ℕ) (left' borne' : Rows) (back : ℕ) : Type 0 where
  pub each : EachCharged left borne (own_charges left loss) left' borne'
  pub answers : back ≡ unborne left loss
  pub settled : Settled (four_tiers left borne) loss (four_tiers left' borne') back
  -- an account that has nothing left above the senior parts is charged only if no junior part then has anything left
  pub juniors_first :
      (m : ℕ) → m < 64 → left.estate m ≡ 0 → left.own_share m ≡ 0 → left.juniors m ≡ 0 →
      0 < charged (four_tiers left borne) (four_tiers left' borne') m → (a : ℕ) → a < 64 → left'.juniors a ≡ 0

-- What a loss charges each account of our own pile, made new for it of these capacities.
pub record OwnCharged (capacity : Rows) (loss : ℕ) (charges : List ℕ) (back : ℕ) : Type 0 where
  pub wide : length charges ≡ 64
  pub each : (a : ℕ) → a < 64 → at charges a ≡ own_charge capacity loss a
  pub answers : back ≡ unborne capacity loss
  -- charges and what comes back make the loss
  pub whole : total 64 (at charges) + back ≡ loss
  -- a member with no junior part is charged only if every junior part is spent
  pub juniors_first :
      (m : ℕ) → m < 60 → capacity.juniors m ≡ 0 → 0 < at charges m →
      (a : ℕ) → a < 60 → (own_charges capacity loss).juniors a ≡ capacity.juniors a
