-- What the functions that share out answer and leave.
use Rattle.std.specs.Prelude.{◌≡◌, ℕ, ◌+◌, ◌<◌, ◌≤◌, cond, nat_lt, List, length, Result, Ok, Err}
use Rattle.shares.specs.Sums.{total, at}
use Rattle.shares.specs.declared.Unshared.{Unshared}
use Rattle.shares.specs.declared.Unshared.TheVariants.{FewPlaces, PastBase}
use Rattle.shares.specs.Shares.{dealt, share}

-- `got` is the share of a weight behind weights that sum to `before`, where they and it are within the base.
pub record Shared (amount base before weight got : ℕ) : Type 0 where
  pub fits : before + weight ≤ base
  pub is : (w : ℕ → ℕ) (a : ℕ) → total a w ≡ before → w a ≡ weight → got ≡ share amount base w a
  pub adds : dealt amount base before + got ≡ dealt amount base (before + weight)
  pub low : amount ≤ base → got ≤ weight

-- The weights have a place each, and together are within the base.
pub record Fits (base : ℕ) (weights places : List ℕ) : Type 0 where
  pub room : length weights ≤ length places
  pub within : total (length weights) (at weights) ≤ base

-- Whether weights are shared out to places, and why not if they are not: places are counted first.
abbrev pub sharing : (base : ℕ) → (weights places : List ℕ) → Result (Unit {0}) Unshared
sharing base weights places =
    cond (nat_lt (length places) (length weights)) (Err FewPlaces)
    (cond (nat_lt base (total (length weights) (at weights))) (Err PastBase) (Ok tt))

-- The places `old` are `new` after the weights were shared out to them, or were refused.
pub record SharedOut (amount base : ℕ) (weights old new : List ℕ) (answer : Result (Unit {0}) Unshared) : Type 0 where
  pub is : answer ≡ sharing base weights old
  pub accepts : Fits base weights old → answer ≡ Ok tt
  pub fits : answer ≡ Ok tt → Fits base weights old
  pub each : answer ≡ Ok tt → (a : ℕ) → a < length weights → at new a ≡ share amount base (at weights) a
  pub rest : (a : ℕ) → length weights ≤ a → at new a ≡ at old a
  pub size : length new ≡ length old
  pub refused : (why : Unshared) → answer ≡ Err why → new ≡ old
  pub whole : answer ≡ Ok tt → 0 < base → total (length weights) (at weights) ≡ base → total (length weights) (at new) ≡ amount
  pub low : answer ≡ Ok tt → amount ≤ base → (a : ℕ) → a < length weights → at new a ≤ at weights a
