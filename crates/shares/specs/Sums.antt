-- The sum of a row of numbers; a row is a function of the place.
use Rattle.std.specs.Prelude.{ℕ, zero, suc, ◌+◌, List, slice_index}

-- The sum of f 0 to f (n - 1).
unfoldable pub total : ℕ → (ℕ → ℕ) → ℕ
total zero f = 0
total (suc n) f = total n f + f n

-- A list read as a row: 0 past its end.
abbrev pub at : List ℕ → ℕ → ℕ
at xs a = slice_index xs a
