use Rattle.std.proofs.Common.{◌≡◌}
use Rattle.report.specs.Left.{file_of, left, ahead}
use Rattle.report.proofs.report.Report.next_line.Given as goal

abbrev pub invariant-loop-self : goal.invariant-loop-self
invariant-loop-self l = (file_of l.self ≡ file_of l.initial.self) × (left l.initial.self ≡ left l.self)

abbrev pub decreases-loop-self : goal.decreases-loop-self
decreases-loop-self l = ahead l.self
