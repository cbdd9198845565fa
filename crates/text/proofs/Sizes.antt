-- How many bytes a number takes.
use Rattle.std.proofs.Common.{ℕ, ◌+◌, ◌^◌, ◌<◌, ◌≤◌, length, ℤ, decimal, arith}
use lib.Signed.{mag}
use Rattle.std.specs.Fmt.{signed_decimal}
use Rattle.std.proofs.lemmas.Fmt.{length-decimal-le, length_signed_le}

-- A number below 10 ^ k has at most k digits.
pub decimal_at_most : (k n : ℕ) → 0 < k → n < 10 ^ k → n < 2 ^ 64 → length (decimal n) ≤ k
decimal_at_most k n = length-decimal-le k n

pub decimal_at_most_20 : (n : ℕ) → n < 2 ^ 64 → length (decimal n) ≤ 20
decimal_at_most_20 n h = length-decimal-le 20 n (omega arith) (omega arith) h

-- A number that may be below 0 has at most one byte more.
pub signed_at_most : (k : ℕ) (z : ℤ) → mag z + 1 < 10 ^ k → mag z < 2 ^ 63 → length (signed_decimal z) ≤ k + 1
signed_at_most k z = length_signed_le k z

pub signed_at_most_20 : (z : ℤ) → mag z < 2 ^ 63 → length (signed_decimal z) ≤ 20
signed_at_most_20 z h = length_signed_le 19 z (omega arith) h
