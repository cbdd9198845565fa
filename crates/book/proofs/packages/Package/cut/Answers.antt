use Rattle.std.proofs.Common.{rules, [], sym, ap, ◌∙◌}
use Rattle.rules.specs.Residuals.{second_round}
use Rattle.calls.specs.Held.{Held}
use Rattle.book.specs.HeldRounds.{round_held}
use Rattle.book.specs.Terms.{terms_in}
use Rattle.book.proofs.Cutting.{cut_by}
use Rattle.book.proofs.packages.Package.cut.Goals as goal

pub invariant_of-self-2-clause-cut : goal.invariant_of-self-2-clause-cut
invariant_of-self-2-clause-cut c =
    let terms = ap (λ (h : Held). terms_in h.round) c.open.ensures ∙ c.second_terms.ensures
    ∙ ap (λ (h : Held). terms_in (second_round h.round c.args.parts [])) (sym c.divide.ensures) in
    cut_by (round_held c.divide.new.self) (round_held c.open.new.self) c.args.parts (search rules) (search rules) (ap (λ (h : Held). h.struck) c.divide.ensures) terms
