-- What counts only under a test, and amounts with a sign.
use Rattle.std.specs.Prelude.{ℕ, zero, suc, Bool, cond, ℤ, pos, negsuc, ◌+ℤ◌, neg_ℤ}

-- n where the test is passed, else 0
abbrev pub when : Bool → ℕ → ℕ
when b n = cond b n 0

-- the sum of f 0 to f (n - 1), of either sign
unfoldable pub total_z : ℕ → (ℕ → ℤ) → ℤ
total_z zero f = pos 0
total_z (suc n) f = total_z n f +ℤ f n

-- a size with the sign of a price put back; there is no negative zero
abbrev pub signed_as : (price : ℤ) → (size : ℕ) → ℤ
signed_as (pos p) n = pos n
signed_as (negsuc p) n = neg_ℤ (pos n)
