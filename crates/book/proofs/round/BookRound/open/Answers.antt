use Rattle.book.proofs.round.BookRound.open.Goals as goal

pub invariant_of-self-clause-divided : goal.invariant_of-self-clause-divided
invariant_of-self-clause-divided c = tt
