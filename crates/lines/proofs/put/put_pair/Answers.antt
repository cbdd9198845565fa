use Rattle.std.proofs.Common.{rules}
use Rattle.text.proofs.Writes.{tried_last, tried_then, tried_short}
use Rattle.lines.proofs.Trying.{tried_on, tried_stuck}
use Rattle.lines.proofs.put.put_pair.Goals as goal

pub returns-in_err-at : goal.returns-in_err-at
returns-in_err-at c = tried_short _ (search rules) c.in_err-at.ensures

pub returns-in_err-at-2 : goal.returns-in_err-at-2
returns-in_err-at-2 c = tried_then c.in_ok-at.ensures (tried_stuck _ (search rules) c.in_err-at-2.ensures)

pub returns-in_err-at-3 : goal.returns-in_err-at-3
returns-in_err-at-3 c = tried_then c.in_ok-at.ensures (tried_on c.in_ok-at-2.ensures (tried_stuck _ (search rules) c.in_err-at-3.ensures))

pub returns : goal.returns
returns c = tried_then c.in_ok-at.ensures (tried_on c.in_ok-at-2.ensures (tried_on c.in_ok-at-3.ensures (tried_last c.put_end.result c.put_end.ensures)))
