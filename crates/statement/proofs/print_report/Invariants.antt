use Rattle.std.proofs.Common.{◌≡◌, length}
use Rattle.report.specs.Left.{left}
use Rattle.statement.proofs.print_report.Given as goal

abbrev pub invariant-loop-length : goal.invariant-loop-length
invariant-loop-length l = length l.memory ≡ 32

abbrev pub decreases-loop-length : goal.decreases-loop-length
decreases-loop-length l = length (left l.report)
