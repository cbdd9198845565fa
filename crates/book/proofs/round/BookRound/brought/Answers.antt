use Rattle.std.proofs.Common.{rules}
use Rattle.book.proofs.Transferred.{brought_shown}
use Rattle.book.proofs.round.BookRound.brought.Goals as goal

pub returns-in-Some-clause-is : goal.returns-in-Some-clause-is
returns-in-Some-clause-is c = let h = brought_shown c.args.self.now c.in-Some.division c.in-Some.is in search rules
