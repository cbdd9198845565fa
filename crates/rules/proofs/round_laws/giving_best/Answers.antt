use Rattle.rules.proofs.Best.{book_best, giving_best}
use Rattle.rules.proofs.round_laws.giving_best.Goals as goal

pub returns : goal.returns
returns c = record { book = book_best; round = giving_best }
