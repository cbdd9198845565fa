-- The pile that the program builds.
use Rattle.std.specs.Prelude.{ℕ, cond, ◌==◌}
use Rattle.tiers.specs.Piles.{Pile}
use Rattle.tiers.specs.Piles.Pile.{one, above}
use Rattle.tiers.specs.declared.tier.Balance.{Balance}

abbrev pub in_turn_row : ℕ → ℕ
in_turn_row a = cond (a == 60) 1000 (cond (a == 61) 500 0)

abbrev pub backward_row : ℕ → ℕ
backward_row a = cond (a == 0) 3000000000000000 (cond (a == 1) 700 (cond (a == 2) 300 0))

abbrev pub pro_rata_row : ℕ → ℕ
pro_rata_row a = cond (a == 0) 100 (cond (a == 1) 200 (cond (a == 2) 300 0))

-- Nothing is borne yet.
abbrev pub example : Pile
example = above (one in_turn_row (λ _. 0)) (above (one backward_row (λ _. 0)) (one pro_rata_row (λ _. 0)))

-- What is told of no account.
abbrev pub untold : Balance
untold = record { left = 0; borne = 0 }
