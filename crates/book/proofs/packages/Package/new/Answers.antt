use Rattle.book.proofs.packages.Package.new.Goals as goal

pub invariant_of-result-clause-cut : goal.invariant_of-result-clause-cut
invariant_of-result-clause-cut c = tt
