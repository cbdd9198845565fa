-- The minimums of a first round, computed.
use Rattle.std.proofs.Common.{◌≡◌, ℕ, zero, suc, ◌+◌, ◌-◌, ◌*◌, ◌/◌, ◌%◌, ◌<◌, ◌≤◌, min, Bool, true, false, not, ◌&&◌, List, length, get_or, sym, refl, ap, ◌∙◌, inl, inr, add-one, arith}
use Rattle.std.proofs.lemmas.List.{get_or_default}
use Rattle.std.proofs.lemmas.Bool.{cases_lt}
use Rattle.std.proofs.lemmas.Grind.{div_ceil_times}
use native.Mathlib.Nat.{div-eq_of_lt-le}
use Rattle.shares.specs.Sums.{at, total}
use Rattle.shares.proofs.Totals.{total_within, total_same}
use Rattle.rules.specs.declared.member.Member.{Member}
use Rattle.rules.specs.Amounts.{when}
use Rattle.rules.specs.Members.{nobody}
use Rattle.rules.specs.Minimums.{contributed, is_excused, all_excused, counted, ceil, minimum_of, first_minimum}
use Rattle.rules.proofs.Covering.{minimums_reach, some_serves}
use Rattle.auction.specs.Asked.{Askable, Asked, Contributing}
use Rattle.auction.specs.Rows.{Row}

-- within the list a contribution is read whatever the default
pub read_is : (members : List Member) (a : ℕ) (d : Member) → a < length members → (get_or members a d).contribution ≡ contributed members a
read_is members a d l = ap (λ (m : Member). m.contribution) (get_or_default members a d nobody l)

pub all_more : (set a : ℕ) → is_excused set a ≡ true → all_excused set a ≡ true → all_excused set (a + 1) ≡ true
all_more set a here before = ap (all_excused set) (add-one a) ∙ ap (λ (t : Bool). t && all_excused set a) here ∙ before

pub all_not : (set a n : ℕ) → is_excused set a ≡ false → a < n → all_excused set n ≡ false
all_not set a zero here l = absurd (omega arith)
all_not set a (suc n) here l =
    elim (cases_lt a n) [
      | inl k ↦ (ap (λ (t : Bool). is_excused set n && t) (all_not set a n here k) ∙ and_false (is_excused set n))
      | inr k ↦ (let e : n ≡ a = omega arith in ap (λ (x : ℕ). is_excused set x && all_excused set n) e ∙ ap (λ (t : Bool). t && all_excused set n) here)
    ]
  where
    and_false : (t : Bool) → (t && false) ≡ false
    and_false true = refl
    and_false false = refl

-- and is within its limit
pub read_low : (members : List Member) (a : ℕ) (d : Member) → Contributing members → a < length members → (get_or members a d).contribution ≤ 25000000
read_low members a d low l = omega (arith, read_is members a d l, low a l)

-- what is read of it counts
pub counted_is : (members : List Member) (excused a : ℕ) (d : Member) → a < length members → when (not (is_excused excused a)) (get_or members a d).contribution ≡ counted members excused a
counted_is members excused a d l = ap (λ (n : ℕ). when (not (is_excused excused a)) n) (read_is members a d l)

-- somebody's contribution counts
pub base_some : (members : List Member) (multiplier excused : ℕ) → Askable members multiplier excused → 0 < total (length members) (counted members excused)
base_some members multiplier excused ask =
    let s = some_serves excused (length members) ask.serving in
    let here : counted members excused s.0 ≡ contributed members s.0 = ap (λ (t : Bool). when (not t) (contributed members s.0)) s.2 in
    omega (arith, here, (ask.contributing s.0 s.1).0, total_within (length members) (counted members excused) s.0 s.1)

-- the quotient that the library rounds up
pub ceil_is : (n k : ℕ) → 0 < k → n / k + min 1 (n % k) ≡ ceil n k
unfolding ceil
ceil_is n k h =
    let t = div_ceil_times n k h in
    sym (div-eq_of_lt-le {k = n / k + min 1 (n % k)} k {m = n + (k - 1)} (omega (arith, t.1)) (omega (arith, t.0)))

pub asked : (members : List Member) (multiplier excused base : ℕ) (row : List ℕ) → Askable members multiplier excused → base ≡ total (length members) (counted members excused) →
    Row (length members) (λ a. min 1000000 (ceil (counted members excused a * multiplier * 1000) base)) row → Asked members multiplier excused row
unfolding minimum_of
asked members multiplier excused base row ask eb so =
    let same : (a : ℕ) → a < length members → at row a ≡ first_minimum members multiplier excused a =
    λ a l. so.shows a l ∙ ap (λ (n : ℕ). min 1000000 (ceil (counted members excused a * multiplier * 1000) n)) eb in
    record {
      shown = record { shows = same; blank = so.blank };
      low = λ a l. omega (arith, so.shows a l);
      covering = omega (
        arith,
        minimums_reach (length members) (counted members excused) multiplier ask.least (base_some members multiplier excused ask),
        total_same (length members) (at row) (first_minimum members multiplier excused) same,
      );
    }
