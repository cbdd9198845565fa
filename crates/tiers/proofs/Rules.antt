-- Charging in turn and charging pro rata.
use Rattle.std.proofs.Common.{◌≡◌, ℕ, ◌+◌, ◌<◌, min, ap, ◌∙◌, arith}
use Rattle.shares.specs.Sums.{total}
use Rattle.shares.specs.Shares.{share}
use Rattle.shares.proofs.Totals.{total_more, total_grows, total_same}
use Rattle.shares.proofs.Sharing.{share_same}
use Rattle.tiers.specs.Charging.{in_turn, pro_rata, rest}
use Rattle.tiers.specs.Laws.{InTurnOrder}
pub use Rattle.tiers.specs.Rules.{in_turn_lawful, pro_rata_lawful}

-- An account is charged in turn only if each before it is charged to its end.
pub in_turn_order : InTurnOrder
in_turn_order left x a b h some = omega (arith, total_more a left, total_grows (a + 1) b left (omega arith))

-- Both look at what accounts 0 to 63 can bear, and at nothing else.
pub in_turn_same : (f g : ℕ → ℕ) (x : ℕ) → ((a : ℕ) → a < 64 → f a ≡ g a) → (a : ℕ) → a < 64 → in_turn f x a ≡ in_turn g x a
in_turn_same f g x same a h = omega (arith, same a h, total_same a f g (λ k l. same k (omega arith)))

pub pro_rata_same : (f g : ℕ → ℕ) (x : ℕ) → ((a : ℕ) → a < 64 → f a ≡ g a) → (a : ℕ) → a < 64 → pro_rata f x a ≡ pro_rata g x a
pro_rata_same f g x same a h =
    let e : total 64 f ≡ total 64 g = total_same 64 f g same in
    ap (λ n. share (min x n) n f a) e ∙ share_same (min x (total 64 g)) (total 64 g) f g 64 same a h

pub rest_same : (f g : ℕ → ℕ) (x y : ℕ) → ((a : ℕ) → a < 64 → f a ≡ g a) → x ≡ y → rest f x ≡ rest g y
rest_same f g x y same e = omega (arith, total_same 64 f g same)
