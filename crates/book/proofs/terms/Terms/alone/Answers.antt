use Rattle.book.proofs.Alone.{alone_covers, alone_spare}
use Rattle.book.proofs.terms.Terms.alone.Goals as goal

pub invariant_of-result-clause-spare : goal.invariant_of-result-clause-spare
invariant_of-result-clause-spare c = alone_spare

pub invariant_of-result-clause-covered : goal.invariant_of-result-clause-covered
invariant_of-result-clause-covered c = alone_covers
