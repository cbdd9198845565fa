-- What our tables of accounts mean.
use Rattle.std.specs.Prelude.{ℕ}
use Rattle.tiers.specs.Piles.{Pile}
use Rattle.tiers.specs.Tables.{left_of, borne_of, tier_of}
use Rattle.tiers.specs.declared.accounts.Accounts.{Accounts}

-- The tier that a table is.
abbrev pub tier_in : Accounts → Pile
tier_in accounts = tier_of accounts.each

-- What its accounts can still bear.
abbrev pub left_in : Accounts → ℕ → ℕ
left_in accounts = left_of accounts.each

-- What they have borne.
abbrev pub borne_in : Accounts → ℕ → ℕ
borne_in accounts = borne_of accounts.each
