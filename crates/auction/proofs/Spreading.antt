-- The running shares over the weights of a row.
use Rattle.std.proofs.Common.{◌≡◌, ℕ, ◌+◌, ◌<◌, ◌≤◌, Result, List, length, ℤ, pos, negsuc, refl, sym, ◌∙◌, inl, inr, arith}
use Rattle.std.proofs.lemmas.Bool.{cases_lt}
use Rattle.std.proofs.lemmas.List.{get_or_past}
use Rattle.shares.specs.Sums.{at, total}
use Rattle.shares.specs.Shares.{share}
use Rattle.shares.specs.Outcomes.{SharedOut, Fits}
use Rattle.shares.specs.declared.Unshared.{Unshared}
use Rattle.rules.specs.Amounts.{signed_as}
use Rattle.shares.proofs.Totals.{total_grows}
use Rattle.shares.proofs.Sharing.{share_at_most, share_weightless}

-- shared out to as many places, each weight has its share
pub spread : (amount base : ℕ) (weights old new : List ℕ) (answer : Result (Unit {0}) Unshared) → length weights ≡ length old → total (length weights) (at weights) ≤ base →
    SharedOut amount base weights old new answer → (a : ℕ) → at new a ≡ share amount base (at weights) a
spread amount base weights old new answer long within out a =
    let fits : Fits base weights old = record { room = omega arith; within = within } in
    elim (cases_lt a (length weights)) [
      | inl l ↦ out.each (out.accepts fits) a l
      | inr l ↦ get_or_past new a 0 (omega (arith, out.size)) ∙ sym (share_weightless amount base (at weights) a (get_or_past weights a 0 l))
    ]

-- none passes the amount
pub spread_low : (amount base n : ℕ) (w : ℕ → ℕ) → total n w ≤ base → (a : ℕ) → a < n → share amount base w a ≤ amount
spread_low amount base n w within a h = share_at_most amount base w a (omega (arith, total_grows (a + 1) n w (omega arith)))

-- of a list's weights, at any place
pub spread_under : (amount base : ℕ) (weights : List ℕ) → total (length weights) (at weights) ≤ base → (a : ℕ) → share amount base (at weights) a ≤ amount
spread_under amount base weights within a =
    elim (cases_lt a (length weights)) [
      | inl l ↦ spread_low amount base (length weights) (at weights) within a l
      | inr l ↦ omega (arith, share_weightless amount base (at weights) a (get_or_past weights a 0 l))
    ]

-- nothing has no sign
pub signed_none : (z : ℤ) → signed_as z 0 ≡ pos 0
signed_none (pos n) = refl
signed_none (negsuc n) = refl
