use Rattle.std.proofs.Common.{◌≡◌, ℕ, ◌<◌, arith, rules}
use Rattle.std.proofs.lemmas.Bool.Decides.{nat_tests}
use Rattle.shares.specs.Sums.{at}
use Rattle.bearing.specs.Example.{in_turn_row, backward_row, pro_rata_row}
use Rattle.bearing.proofs.three_deep.Goals as goal

pub returns-in_err-upper : goal.returns-in_err-upper
returns-in_err-upper c =
    let high = c.in_err-upper.ensures.passes in
    let w = c.row_of-in_turn.ensures.shows high.0 high.1 in
    absurd (grind (arith, nat_tests, w, high.2))

pub returns-in_err-lower : goal.returns-in_err-lower
returns-in_err-lower c =
    let high = c.in_err-lower.ensures.passes in
    let w = c.row_of-pro_rata.ensures.shows high.0 high.1 in
    absurd (grind (arith, nat_tests, w, high.2))

pub returns : goal.returns
returns c =
    let upper : (a : ℕ) → a < 64 → at c.row_of-in_turn.result a ≡ in_turn_row a =
    λ a h. let w = c.row_of-in_turn.ensures.shows a h in grind (arith, nat_tests, w) in
    let middle : (a : ℕ) → a < 64 → at c.row_of-backward.result a ≡ backward_row a =
    λ a h. let w = c.row_of-backward.ensures.shows a h in grind (arith, nat_tests, w) in
    let lower : (a : ℕ) → a < 64 → at c.row_of-pro_rata.result a ≡ pro_rata_row a =
    λ a h. let w = c.row_of-pro_rata.ensures.shows a h in grind (arith, nat_tests, w) in
    search rules
