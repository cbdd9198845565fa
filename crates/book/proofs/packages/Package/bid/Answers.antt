use Rattle.book.specs.HeldRounds.{round_held}
use Rattle.book.proofs.Cutting.{cut_kept}
use Rattle.book.proofs.packages.Package.bid.Goals as goal

pub invariant_of-self-in-Some-clause-cut : goal.invariant_of-self-in-Some-clause-cut
invariant_of-self-in-Some-clause-cut c = cut_kept c.args.self.now (round_held c.take-in-Some.new.self) c.take-in-Some.ensures.terms
