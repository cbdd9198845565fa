use Rattle.std.proofs.Common.{◌≡◌, true, false, ℤ, sym, ap, ◌∙◌, w64, SFits, to_z, of_z}
use Rattle.std.proofs.lemmas.Int.{to_z-of_z}
use Rattle.rules.specs.Rounds.{of_two, reaching}
use Rattle.auction.proofs.Reaching.{mark_two, mark_one}
use Rattle.auction.proofs.marks.mark.Goals as goal

pub returns-then-of_two : goal.returns-then-of_two
returns-then-of_two c =
    let two : of_two c.args.bids.now ≡ true = sym c.of_two.ensures ∙ c.if-of_two.true in
    let fits : SFits w64 c.reached.result = record { sfits = c.reached.type_inv } in
    let p : to_z w64 (of_z w64 c.args.reference) ≡ c.args.reference = to_z-of_z w64 c.args.reference c.ranges.reference in
    to_z-of_z w64 c.reached.result fits ∙ c.reached.ensures ∙ ap (λ (z : ℤ). reaching 1000000 c.args.bids.now z) p
    ∙ mark_two c.args.bids.now c.args.reference two

pub returns-else-of_two : goal.returns-else-of_two
returns-else-of_two c =
    let one : of_two c.args.bids.now ≡ false = sym c.of_two.ensures ∙ c.if-of_two.false in
    to_z-of_z w64 c.args.reference c.ranges.reference ∙ mark_one c.args.bids.now c.args.reference one
