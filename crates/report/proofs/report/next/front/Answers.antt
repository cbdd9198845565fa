use Rattle.std.proofs.Common.{sym, arith, take_all}
use Rattle.report.proofs.report.next.front.Goals as goal

-- a slice of another length is refused at once
pub returns-then-file-gt65536 : goal.returns-then-file-gt65536
returns-then-file-gt65536 c = cc

pub returns-else-file-gt65536 : goal.returns-else-file-gt65536
returns-else-file-gt65536 c = sym (take_all 65536 c.args.file.now (omega arith))
