-- A table of accounts, each with a capacity: what it means, what it keeps to, and how it is opened.
use Rattle.std.specs.Prelude.{◌≡◌, ℕ, ◌-◌, ◌<◌, ◌≤◌, List, slice_index_or}
use Rattle.std.proofs.Common.{zero-le}
use Rattle.shares.specs.Sums.{at}
use Rattle.rules.specs.declared.refusal.Refusal.{Refusal}
use Rattle.rules.specs.declared.refusal.Refusal.TheVariants.{OutsideLimits}
use Rattle.tiers.specs.Piles.{Pile}
use Rattle.tiers.specs.Piles.Pile.{one}
use Rattle.tiers.specs.declared.accounts.Account.{Account}

-- An account that can bear nothing.
abbrev pub no_account : Account
no_account = record { capacity = 0; borne = 0; limited = zero-le; held = zero-le }

abbrev pub account_at : List Account → ℕ → Account
account_at accounts a = slice_index_or accounts a no_account

-- What an account can bear in all.
abbrev pub capacity_of : List Account → ℕ → ℕ
capacity_of accounts a = (account_at accounts a).capacity

-- What it has borne.
abbrev pub borne_of : List Account → ℕ → ℕ
borne_of accounts a = (account_at accounts a).borne

-- What an account can still bear: its capacity less what it has borne.
abbrev pub left_of : List Account → ℕ → ℕ
left_of accounts a = capacity_of accounts a - borne_of accounts a

abbrev pub tier_of : List Account → Pile
tier_of accounts = one (left_of accounts) (borne_of accounts)

-- No capacity is above the limit.
abbrev pub Limited : ℕ → List Account → Type 0
Limited limit accounts = (a : ℕ) → a < 64 → capacity_of accounts a ≤ limit

-- A table is opened with these capacities, all within the limit, and with nothing borne.
pub record Opened (limit : ℕ) (given : List ℕ) (accounts : List Account) : Type 0 where
  pub limited : Limited limit accounts
  pub as_given : (a : ℕ) → a < 64 → capacity_of accounts a ≡ at given a
  pub unborne : (a : ℕ) → a < 64 → borne_of accounts a ≡ 0

-- It is refused where a capacity is above the limit.
pub record Refused (limit : ℕ) (given : List ℕ) (cause : Refusal) : Type 0 where
  pub passes : (a : ℕ) × (a < 64) × (limit < at given a)
  pub outside : cause ≡ OutsideLimits
