-- What the accounts of a table can still bear as a row.
use Rattle.std.proofs.Common.{◌≡◌, ℕ, ◌-◌, ◌<◌, List, length, sym, ◌∙◌, ap, inl, inr, arith}
use Rattle.std.proofs.lemmas.Bool.{cases_lt}
use Rattle.std.proofs.lemmas.List.{get_or_past}
use Rattle.shares.specs.Sums.{at}
use Rattle.tiers.specs.Tables.{no_account, left_of}
use Rattle.tiers.specs.declared.accounts.Account.{Account}

-- A row that says what each account can still bear says it of all numbers: past the accounts both are 0.
pub row_is_left : (accounts : List Account) (row : List ℕ) (n : ℕ) → length accounts ≡ n → length row ≡ n →
    ((a : ℕ) → a < n → at row a ≡ left_of accounts a) → at row ≡ left_of accounts
row_is_left accounts row n wide long same = λ i a. each a i
  where
    each : (a : ℕ) → at row a ≡ left_of accounts a
    each a = elim (cases_lt a n) [
      | inl l ↦ same a l
      | inr l ↦ get_or_past row a 0 (omega arith)
          ∙ sym (ap (λ (x : Account). x.capacity - x.borne) (get_or_past accounts a no_account (omega arith)))
    ]
