use Rattle.std.proofs.Common.{ap}
use Rattle.calls.specs.Held.{Held}
use Rattle.book.specs.HeldRounds.{round_held}
use Rattle.book.specs.Terms.{terms_in}
use Rattle.book.proofs.Cutting.{cut_kept}
use Rattle.book.proofs.packages.Package.strike.Goals as goal

pub invariant_of-self-in-Some-clause-cut : goal.invariant_of-self-in-Some-clause-cut
invariant_of-self-in-Some-clause-cut c = cut_kept c.args.self.now (round_held c.divide-in-Some.new.self) (ap (λ (h : Held). terms_in h.round) c.divide-in-Some.ensures)
