-- The last first: charges come to the amount, or to all that is left; and one turn of the loop that makes them.
use Rattle.std.proofs.Common.{◌≡◌, ℕ, zero, suc, ◌+◌, ◌-◌, ◌<◌, ◌≤◌, min, ◌≢◌, List, length, set, sym, refl, ap, ◌∙◌, inl, inr, arith, length-set, get_or-set_other, get_or-set_same}
use Rattle.std.proofs.lemmas.Bool.{cases_eq}
use Rattle.shares.specs.Sums.{total}
use Rattle.shares.proofs.Totals.{total_none, total_more, total_grows}
use Rattle.tiers.specs.Charging.{Charged}
use Rattle.tiers.specs.Laws.{Lawful}
use Rattle.backward.specs.Charging.{behind, last_first}
use Rattle.backward.specs.Accounts.{no_account, account_at, left_of, borne_of, Bears}
use Rattle.backward.specs.declared.Account.{Account}

one_more : (n : ℕ) (f : ℕ → ℕ) → total (suc n) f ≡ total n f + f n
unfolding total
one_more n f = refl

-- Of x the ones behind bear up to d, then an account up to l, then those before it up to t.
step : (x t l d : ℕ) → min (x - (l + d)) t + min l (x - d) ≡ min (x - d) (t + l)
step x t l d = omega arith

-- The accounts below n bear what those from n on leave.
total_last_first : (n : ℕ) (left : ℕ → ℕ) (x : ℕ) → n ≤ 64 → total n (last_first left x) ≡ min (x - (total 64 left - total n left)) (total n left)
total_last_first zero left x h = omega (arith, total_none left, total_none (last_first left x))
total_last_first (suc n) left x h =
    let d = total 64 left - total (suc n) left in
    let more : total (suc n) left ≡ total n left + left n = one_more n left in
    let from : total 64 left - total n left ≡ left n + d = omega (arith, total_grows (suc n) 64 left h) in
    let after : behind left n ≡ d = ap (λ k. total 64 left - k) (total_more n left ∙ sym more) in
    one_more n (last_first left x)
    ∙ ap (λ k. k + last_first left x n) (total_last_first n left x (omega arith))
    ∙ ap (λ k. min (x - k) (total n left) + last_first left x n) from
    ∙ ap (λ k. min (x - (left n + d)) (total n left) + min (left n) (x - k)) after
    ∙ step x (total n left) (left n) d
    ∙ ap (min (x - d)) (sym more)

pub last_first_lawful : Lawful last_first
last_first_lawful = record { within = λ left x a. omega arith; whole = λ left x. omega (arith, total_last_first 64 left x (omega arith)) }

-- The accounts from i on are charged, those below are as they were, and `rest` is what is yet to be borne.
pub record Turned (old : List Account) (x i : ℕ) (accounts : List Account) (rest : ℕ) : Type 0 where
  pub wide : length accounts ≡ 64
  pub rest_is : rest ≡ x - (total 64 (left_of old) - total i (left_of old))
  pub done : (a : ℕ) → i ≤ a → a < 64 →
      (borne_of accounts a ≡ borne_of old a + last_first (left_of old) x a) × (left_of accounts a + last_first (left_of old) x a ≡ left_of old a)
  pub kept : (a : ℕ) → a < i → account_at accounts a ≡ account_at old a

pub turned_more : (old : List Account) (x i : ℕ) (accounts : List Account) (rest : ℕ) (account : Account) (back : ℕ) →
    i < 64 → Turned old x (i + 1) accounts rest → Bears (account_at accounts i) rest account back →
    Turned old x i (set accounts i account) back
turned_more old x i accounts rest account back h t bore =
    let here : account_at accounts i ≡ account_at old i = t.kept i (omega arith) in
    let left : left_of accounts i ≡ left_of old i = ap (λ (y : Account). y.left) here in
    let borne : borne_of accounts i ≡ borne_of old i = ap (λ (y : Account). y.borne) here in
    let more = total_more i (left_of old) in
    let grows = total_grows (i + 1) 64 (left_of old) (omega arith) in
    let new : account_at (set accounts i account) i ≡ account = get_or-set_same accounts i account no_account (omega (arith, t.wide)) in
    let new-left : left_of (set accounts i account) i ≡ account.left = ap (λ (y : Account). y.left) new in
    let new-borne : borne_of (set accounts i account) i ≡ account.borne = ap (λ (y : Account). y.borne) new in
    let other : (a : ℕ) → a ≢ i → account_at (set accounts i account) a ≡ account_at accounts a =
    λ a ne. get_or-set_other accounts i a account no_account ne in
    record {
      wide = length-set _ _ _ ∙ t.wide;
      rest_is = omega (arith, t.rest_is, bore.answers);
      done = λ a l k. elim (cases_eq a i) [
        | inl e ↦ rw e (omega (arith, t.rest_is, bore.borne), omega (arith, t.rest_is, bore.left))
        | inr ne ↦ (
          ap (λ (y : Account). y.borne) (other a ne) ∙ (t.done a (omega arith) k).0,
          omega (arith, ap (λ (y : Account). y.left) (other a ne), (t.done a (omega arith) k).1),
        )
      ];
      kept = λ a l. other a (λ e. omega arith) ∙ t.kept a (omega arith);
    }

-- Once all had their turn, all are charged.
pub turned_all : (old : List Account) (x i : ℕ) (accounts : List Account) (rest : ℕ) → i ≤ 0 → Turned old x i accounts rest →
    Charged (left_of old) (borne_of old) (last_first (left_of old) x) (left_of accounts) (borne_of accounts)
    × (rest ≡ x - min x (total 64 (left_of old)))
turned_all old x i accounts rest h t =
    let end : i ≡ 0 = omega arith in
    let none : total i (left_of old) ≡ 0 = ap (λ n. total n (left_of old)) end ∙ total_none (left_of old) in
    (λ a l. t.done a (omega arith) l, omega (arith, t.rest_is))
