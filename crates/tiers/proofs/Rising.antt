-- A tier whose accounts are charged within what each can bear, and as much in all as can be borne, has borne.
use Rattle.std.proofs.Common.{◌≡◌, ℕ, ◌+◌, ◌-◌, ◌<◌, ◌≤◌, min, List, arith}
use Rattle.shares.specs.Sums.{total, at}
use Rattle.shares.proofs.Totals.{total_plus, total_same}
use Rattle.tiers.specs.Piles.{Bore}
use Rattle.tiers.specs.Piles.Pile.{one}
use Rattle.tiers.specs.Charging.{Rule, Charged, ChargedBy}
use Rattle.tiers.specs.Laws.{Lawful}

pub bore_by : (charge left borne left' borne' : ℕ → ℕ) (x back : ℕ) →
    ((a : ℕ) → a < 64 → charge a ≤ left a) →
    ((a : ℕ) → a < 64 → borne' a ≡ borne a + charge a) →
    ((a : ℕ) → a < 64 → left' a + charge a ≡ left a) →
    total 64 charge ≡ min x (total 64 left) →
    back ≡ x - min x (total 64 left) →
    Bore (one left borne) x (one left' borne') back
bore_by charge left borne left' borne' x back within rises falls sum rest =
    let plus : total 64 (λ a. borne a + charge a) ≡ total 64 borne + total 64 charge = total_plus 64 borne charge in
    let same : total 64 borne' ≡ total 64 (λ a. borne a + charge a) = total_same 64 borne' _ rises in
    record {
      rises = λ a h. omega (arith, rises a h);
      falls = λ a h. omega (arith, rises a h, falls a h);
      bears = omega arith;
      answers = rest;
    }

-- What is charged by a row is charged by the rule that the row follows.
pub charged_by : (rule : Rule) (left borne left' borne' : ℕ → ℕ) (row : List ℕ) (x : ℕ) → Charged left borne (at row) left' borne' →
    ((a : ℕ) → a < 64 → at row a ≡ rule left x a) → ChargedBy rule (one left borne) x (one left' borne')
charged_by rule left borne left' borne' row x charged is a h = (omega (arith, charged a h, is a h), omega (arith, charged a h, is a h))

-- It has borne.
pub bore_by_rule : (rule : Rule) → Lawful rule → (left borne left' borne' : ℕ → ℕ) (x back : ℕ) →
    ChargedBy rule (one left borne) x (one left' borne') → back ≡ x - min x (total 64 left) →
    Bore (one left borne) x (one left' borne') back
bore_by_rule rule law left borne left' borne' x back charged rest =
    bore_by (rule left x) left borne left' borne' x back (λ a _. law.within left x a)
    (λ a h. (charged a h).0) (λ a h. (charged a h).1) (law.whole left x) rest
