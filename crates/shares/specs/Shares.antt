-- The running shares of an amount on a base, over weights in order.
use Rattle.std.specs.Prelude.{ℕ, zero, suc, ◌+◌, ◌-◌, ◌*◌, ◌/◌}
use Rattle.shares.specs.Sums.{total}

-- What goes to the first weights, which sum to `sum`; on base 0, nothing. Only here is an amount rounded:
-- whoever uses shares goes by their laws, and does not open this definition.
unfoldable pub dealt : ℕ → ℕ → ℕ → ℕ
dealt amount zero sum = 0
dealt amount (suc b) sum = amount * sum / suc b

-- What goes to the weight at a: what goes to those up to it and to it, less what goes to those up to it.
unfoldable pub share : ℕ → ℕ → (ℕ → ℕ) → ℕ → ℕ
share amount base w a = dealt amount base (total (a + 1) w) - dealt amount base (total a w)
