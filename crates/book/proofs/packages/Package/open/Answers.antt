use Rattle.std.proofs.Common.{ap, ◌∙◌, w64}
use Rattle.std.proofs.lemmas.Int.{to_z-of_z}
use Rattle.std.proofs.lemmas.Option.{MatchOption-at_some}
use Rattle.calls.specs.Held.{Held}
use Rattle.book.proofs.Opened.{first_is}
use Rattle.book.proofs.packages.Package.open.Goals as goal

pub invariant_of-self-clause-cut : goal.invariant_of-self-clause-cut
invariant_of-self-clause-cut c = tt

pub returns-clause-first : goal.returns-clause-first
returns-clause-first c =
    let asked = (MatchOption-at_some _ _ _ c.in_ok-minimums.ensures.ok_part c.minimums.ensures).1 in
    ap (λ (h : Held). h.round) c.open.ensures ∙ first_is _ _ _ c.args.margin _ _ c.args.reference asked (to_z-of_z w64 c.args.reference c.ranges.reference)
