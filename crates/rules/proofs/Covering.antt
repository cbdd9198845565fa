-- The minimums of a first round: they reach the whole, none passes it, and the excused have none.
use Rattle.std.proofs.Common.{◌≡◌, ℕ, zero, suc, ◌+◌, ◌-◌, ◌*◌, ◌<◌, ◌≤◌, Bool, true, false, not, List, length, refl, ap, inl, inr, mul_comm, mul-le-mul_left, div-add-mod', zero-mul, le_of_mul-le-mul_right, arith}
use native.Mathlib.Nat.{div-eq_of_lt}
use Rattle.std.proofs.lemmas.Bool.{cases_lt, and_cases}
use Rattle.std.proofs.lemmas.Nat.{mod_below}
use Rattle.shares.specs.Sums.{total}
use Rattle.shares.proofs.Totals.{total-le, total_within, total_times}
use Rattle.rules.specs.declared.member.Member.{Member}
use Rattle.rules.specs.Amounts.{when}
use Rattle.rules.specs.Minimums.{all_parts, contributed, is_excused, all_excused, counted, ceil, minimum_of, first_minimum}
use Rattle.rules.specs.RoundLaws.{MinimumsCover, MinimumsBounded}

-- a quotient that is rounded up reaches the dividend
pub ceil_reaches : (n k : ℕ) → 0 < k → n ≤ ceil n k * k
unfolding ceil
ceil_reaches n k h = omega (arith, div-add-mod' (n + (k - 1)) k, mod_below (n + (k - 1)) k h)

pub ceil_none : (k : ℕ) → ceil 0 k ≡ 0
unfolding ceil
ceil_none zero = refl
ceil_none (suc k) = div-eq_of_lt (omega arith)

module _ (m : ℕ) (w : ℕ → ℕ) (x : ℕ) (h : 1000 ≤ x) (some : 0 < total m w) where
  one_covers : (a : ℕ) → a < m → w a * 1000000 ≤ minimum_of m w x a * total m w
  unfolding minimum_of
  one_covers a l =
      let reach : w a * x * 1000 ≤ ceil (w a * x * 1000) (total m w) * total m w = ceil_reaches (w a * x * 1000) (total m w) some in
      let up : w a * 1000 ≤ w a * x = mul-le-mul_left (w a) h in
      let in_all : w a ≤ total m w = total_within m w a l in
      elim (cases_lt (ceil (w a * x * 1000) (total m w)) 1000000) [
        | inl low ↦ (
            let e : minimum_of m w x a ≡ ceil (w a * x * 1000) (total m w) = omega arith in
            rw e (omega arith))
        | inr high ↦ (
            let e : minimum_of m w x a ≡ 1000000 = omega arith in
            rw e (omega arith))
      ]

pub minimums_reach : (m : ℕ) (w : ℕ → ℕ) (x : ℕ) → 1000 ≤ x → 0 < total m w → all_parts ≤ total m (minimum_of m w x)
minimums_reach m w x h some =
    let all : total m w * 1000000 ≤ total m (minimum_of m w x) * total m w =
    omega (arith, total-le m (λ a. w a * 1000000) (λ a. minimum_of m w x a * total m w) (one_covers m w x h some), total_times m w 1000000, total_times m (minimum_of m w x) (total m w)) in
    le_of_mul-le-mul_right (omega (arith, all, mul_comm (total m w) 1000000)) some

pub minimums_cover : MinimumsCover
minimums_cover members x excused h a l serves some =
    let w = counted members excused in
    let here : w a ≡ contributed members a = ap (λ (t : Bool). when (not t) (contributed members a)) serves in
    minimums_reach (length members) w x h (omega (arith, total_within (length members) w a l))

pub minimums_bounded : MinimumsBounded
unfolding minimum_of
minimums_bounded members x excused a = omega arith

pub excused_minimum : (members : List Member) (multiplier excused a : ℕ) → is_excused excused a ≡ true → first_minimum members multiplier excused a ≡ 0
unfolding minimum_of
excused_minimum members x excused a e =
    let w = counted members excused in
    let none : w a ≡ 0 = ap (λ (t : Bool). when (not t) (contributed members a)) e in
    let product : w a * x * 1000 ≡ 0 = omega (arith, ap (λ n. n * x) none, zero-mul x) in
    omega (arith, ap (λ n. ceil n (total (length members) w)) product, ceil_none (total (length members) w))

-- where not all are excused, one is not
pub some_serves : (excused n : ℕ) → all_excused excused n ≡ false → (a : ℕ) × (a < n) × (is_excused excused a ≡ false)
some_serves excused zero e = absurd (let z : ◌≡◌ {A = ℕ} 0 1 = cc in omega arith)
some_serves excused (suc n) e =
    elim (and_cases (is_excused excused n) (all_excused excused n) e) [
      | inl serves ↦ (n, omega arith, serves)
      | inr rest ↦ (let found = some_serves excused n rest in (found.0, omega (arith, found.1), found.2))
    ]
