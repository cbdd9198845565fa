use Rattle.std.proofs.Common.{rules}
use Rattle.text.proofs.Writes.{tried_last, tried_then, tried_short}
use Rattle.lines.proofs.put.put_number.Goals as goal

pub returns-in_err-at : goal.returns-in_err-at
returns-in_err-at g c = tried_short _ (search rules) c.in_err-at.ensures

pub returns : goal.returns
returns g c = tried_then c.in_ok-at.ensures (tried_last c.put_number.result c.put_number.ensures)
