-- Numbers as bytes, the highest byte first.
use Rattle.std.specs.Prelude.{ℕ, zero, suc, ◌/◌, ◌%◌, List, [], ◌∷◌, ◌++◌}
use Rattle.std.specs.Int.Digits.{number_from_digits}

-- the number that bytes write: they are its digits to the base 256
abbrev pub number_of : List ℕ → ℕ
number_of bytes = number_from_digits 256 bytes

-- a number in so many bytes
abbrev pub in_bytes : ℕ → ℕ → List ℕ
in_bytes zero n = []
in_bytes (suc more) n = in_bytes more (n / 256) ++ (n % 256 ∷ [])
