use Rattle.book.proofs.round.BookRound.new.Goals as goal

pub invariant_of-result-clause-divided : goal.invariant_of-result-clause-divided
invariant_of-result-clause-divided c = tt
