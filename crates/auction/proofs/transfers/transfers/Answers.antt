use Rattle.std.proofs.Common.{◌≡◌, ℕ, ◌<◌, ◌≤◌, length, ℤ, pos, nat_abs, inl, inr, refl, ap, ◌∙◌, sym, arith, w64, SFits, to_z, of_z, length-set}
use Rattle.std.proofs.lemmas.Bool.{cases_lt}
use Rattle.std.proofs.lemmas.List.{get_or_past}
use Rattle.std.proofs.lemmas.Int.{to_z-of_z}
use Rattle.shares.specs.Sums.{at, total}
use Rattle.shares.specs.Shares.{share}
use Rattle.shares.proofs.Sharing.{share_weightless}
use Rattle.shares.proofs.Writing.{places_more}
use Rattle.rules.specs.Amounts.{signed_as}
use Rattle.rules.specs.Minimums.{all_parts}
use Rattle.auction.specs.Rows.{at_z}
use Rattle.auction.proofs.Spreading.{signed_none, spread_under}
use Rattle.auction.proofs.transfers.transfers.Goals as goal

pub loop-a-init : goal.loop-a-init
loop-a-init c = (refl, λ k h. absurd (omega arith))

pub signed_as-requires : goal.signed_as-requires
signed_as-requires c =
    let back : nat_abs (to_z w64 (of_z w64 c.args.price)) ≡ nat_abs c.args.price = ap nat_abs (to_z-of_z w64 c.args.price c.ranges.price) in
    let within : total (length c.args.allotments.now) (at c.args.allotments.now) ≤ 1000000 = rw c.told-allotments c.requires in
    omega (arith, back, c.unsigned_abs.ensures.value, c.shares_of-sizes.ensures c.loop-a.a, spread_under c.unsigned_abs.result 1000000 c.args.allotments.now within c.loop-a.a)

pub loop-a-preserved : goal.loop-a-preserved
loop-a-preserved c =
    let row = c.loop-a.row in
    let i = c.loop-a.a in
    let x : ℤ = to_z w64 (of_z w64 c.signed_as.result) in
    let each : ℕ → ℤ = λ k. signed_as (to_z w64 (of_z w64 c.args.price)) (at c.shares_of-sizes.result k) in
    let fits : SFits w64 c.signed_as.result = record { sfits = c.signed_as.type_inv } in
    let inside : i < length row = omega (arith, c.loop-a.invariant.0) in (
      length-set row i x ∙ c.loop-a.invariant.0,
      places_more (pos 0) each row i x inside (to_z-of_z w64 c.signed_as.result fits ∙ c.signed_as.ensures) c.loop-a.invariant.1,
    )

pub returns : goal.returns
returns c =
    let back : c.unsigned_abs.result ≡ nat_abs c.args.price = c.unsigned_abs.ensures.value ∙ ap nat_abs (to_z-of_z w64 c.args.price c.ranges.price) in
    λ a. elim (cases_lt a 64) [
      | inl l ↦ (
          c.loop-a.invariant.1 a (omega arith) ∙ ap (λ (p : ℤ). signed_as p (at c.shares_of-sizes.result a)) (to_z-of_z w64 c.args.price c.ranges.price)
          ∙ ap (λ (n : ℕ). signed_as c.args.price n) (c.shares_of-sizes.ensures a) ∙ ap (λ (n : ℕ). signed_as c.args.price (share n all_parts (at c.args.allotments.now) a)) back)
      | inr l ↦ (
          let past : at_z c.loop-a.row a ≡ pos 0 = get_or_past c.loop-a.row a (pos 0) (omega (arith, c.loop-a.invariant.0)) in
          let none : share (nat_abs c.args.price) all_parts (at c.args.allotments.now) a ≡ 0 = share_weightless _ _ _ a (get_or_past c.args.allotments.now a 0 (omega (arith, c.told-allotments))) in
          past ∙ sym (ap (λ (n : ℕ). signed_as c.args.price n) none ∙ signed_none c.args.price))
    ]
