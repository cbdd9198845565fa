-- What is known of a row by what it shows.
use Rattle.std.proofs.Common.{◌≡◌, ℕ, ◌<◌, ◌≤◌, List, length, take, ap, ◌∙◌, inl, inr, arith, length-take-le, get_or-take}
use Rattle.std.proofs.lemmas.Bool.{cases_lt}
use Rattle.shares.specs.Sums.{at, total}
use Rattle.shares.proofs.Totals.{total_same, total_tail}
use Rattle.rules.specs.Minimums.{all_parts}
use Rattle.auction.specs.Rows.{Low, Row}

module _ (n : ℕ) (f : ℕ → ℕ) (row : List ℕ) (so : Row n f row) where
  -- what it shows may be put in other words
  pub row_same : (g : ℕ → ℕ) → ((a : ℕ) → a < n → f a ≡ g a) → Row n g row
  row_same g same = record { shows = λ a l. so.shows a l ∙ same a l; blank = so.blank }

  -- behind its first places it adds nothing
  pub row_total : (k : ℕ) → n ≤ k → total k (at row) ≡ total n f
  row_total k h = total_tail n k (at row) h (λ a l _. so.blank a l) ∙ total_same n (at row) f so.shows

  -- and passes nothing
  pub row_low : ((a : ℕ) → a < n → f a ≤ all_parts) → (k : ℕ) → Low k row
  row_low low k a _ = elim (cases_lt a n) [ inl l ↦ omega (arith, so.shows a l, low a l) | inr l ↦ omega (arith, so.blank a l) ]

-- the first places of a row, as a list
module _ (n : ℕ) (row : List ℕ) (room : n ≤ length row) where
  long : length (take n row) ≡ n
  long = length-take-le n row room

  pub front_low : Low (length (take n row)) (take n row) → Low n row
  front_low low a h = omega (arith, low a (omega (arith, long)), get_or-take n row a 0 h)

  pub low_front : Low n row → Low (length (take n row)) (take n row)
  low_front low a h = let l : a < n = omega (arith, long) in omega (arith, low a l, get_or-take n row a 0 l)

  pub front_total : total (length (take n row)) (at (take n row)) ≡ total n (at row)
  front_total = ap (λ (k : ℕ). total k (at (take n row))) long ∙ total_same n (at (take n row)) (at row) (λ a h. get_or-take n row a 0 h)
