-- Sums of lists as sums of rows.
use Rattle.std.proofs.Common.{◌≡◌, ℕ, ◌+◌, List, [], ◌∷◌, length, sum, sym, ◌∙◌, ap}
use Rattle.std.proofs.lemmas.List.Sums.{sum_by-cons}
use Rattle.shares.specs.Sums.{total, at}
use Rattle.shares.proofs.Totals.{total_none, total_first}

-- The sum of a list is the total of its row.
sum_is : (xs : List ℕ) → sum xs ≡ total (length xs) (at xs)
sum_is [] = sym (total_none (at []))
sum_is (x ∷ xs) = sum_by-cons (λ y. y) x xs ∙ ap (λ n. x + n) (sum_is xs) ∙ sym (total_first (length xs) (at (x ∷ xs)))

-- The same of a row of n.
pub sum_of_row : (xs : List ℕ) (n : ℕ) → length xs ≡ n → sum xs ≡ total n (at xs)
sum_of_row xs n e = sum_is xs ∙ ap (λ k. total k (at xs)) e
