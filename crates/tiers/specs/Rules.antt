-- Both rules are lawful.
use Rattle.std.specs.Prelude.{◌≡◌, ℕ, zero, suc, min}
use Rattle.std.proofs.Common.{arith}
use Rattle.shares.specs.Sums.{total}
use Rattle.shares.proofs.Sharing.{share_within, shares_full}
use Rattle.tiers.specs.Charging.{in_turn, pro_rata}
use Rattle.tiers.specs.Laws.{Lawful}

total_in_turn : (n : ℕ) (left : ℕ → ℕ) (x : ℕ) → total n (in_turn left x) ≡ min x (total n left)
unfolding total
total_in_turn zero left x = omega arith
total_in_turn (suc n) left x = omega (arith, total_in_turn n left x)

pub in_turn_lawful : Lawful in_turn
in_turn_lawful = record { within = λ left x a. omega arith; whole = total_in_turn 64 }

pub pro_rata_lawful : Lawful pro_rata
pro_rata_lawful = record {
  within = λ left x a. share_within (min x (total 64 left)) (total 64 left) left a (omega arith);
  whole = λ left x. shares_full (min x (total 64 left)) left 64 (omega arith);
}
