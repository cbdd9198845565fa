-- The accounts of a tier of another house, and the tier that they are.
use Rattle.std.specs.Prelude.{◌≡◌, ℕ, ◌+◌, ◌-◌, min, List, slice_index_or}
use Rattle.std.proofs.Common.{arith}
use Rattle.tiers.specs.Piles.{Pile}
use Rattle.tiers.specs.Piles.Pile.{one}
use Rattle.backward.specs.declared.Account.{Account}

-- An account that can bear nothing.
abbrev pub no_account : Account
no_account = record { left = 0; borne = 0; fits = omega arith }

abbrev pub account_at : List Account → ℕ → Account
account_at accounts a = slice_index_or accounts a no_account

-- What an account can still bear.
abbrev pub left_of : List Account → ℕ → ℕ
left_of accounts a = (account_at accounts a).left

-- What it has borne.
abbrev pub borne_of : List Account → ℕ → ℕ
borne_of accounts a = (account_at accounts a).borne

abbrev pub tier_of : List Account → Pile
tier_of accounts = one (left_of accounts) (borne_of accounts)

-- An account bears what it can of an amount, and the rest comes back.
pub record Bears (old : Account) (amount : ℕ) (new : Account) (back : ℕ) : Type 0 where
  pub borne : new.borne ≡ old.borne + min old.left amount
  pub left : new.left ≡ old.left - min old.left amount
  pub answers : back ≡ amount - min old.left amount
