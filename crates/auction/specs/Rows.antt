-- What a row of numbers shows. A row is read as a list; a place that it does not have reads as 0.
use Rattle.std.specs.Prelude.{◌≡◌, ℕ, ◌<◌, ◌≤◌, List, ℤ, pos, slice_index_or}
use Rattle.shares.specs.Sums.{at}
use Rattle.rules.specs.Minimums.{all_parts}

-- f stands in the first n places, and 0 behind them
pub record Row (n : ℕ) (f : ℕ → ℕ) (row : List ℕ) : Type 0 where
  pub shows : (a : ℕ) → a < n → at row a ≡ f a
  pub blank : (a : ℕ) → n ≤ a → at row a ≡ 0

-- a row of numbers of either sign
abbrev pub at_z : List ℤ → ℕ → ℤ
at_z row a = slice_index_or row a (pos 0)

pub record RowZ (n : ℕ) (f : ℕ → ℤ) (row : List ℤ) : Type 0 where
  pub shows : (a : ℕ) → a < n → at_z row a ≡ f a
  pub blank : (a : ℕ) → n ≤ a → at_z row a ≡ pos 0

-- none of the first n places passes the whole
abbrev pub Low : (n : ℕ) → List ℕ → Type 0
Low n row = (a : ℕ) → a < n → at row a ≤ all_parts

-- none of the first n places passes 32 bits
abbrev pub Narrow : (n : ℕ) → List ℕ → Type 0
Narrow n row = (i : ℕ) → i < n → at row i ≤ 4294967295
