use Rattle.std.proofs.Common.{length, ap, ◌∙◌, zero-le, arith, length-take}
use Rattle.report.proofs.report.Report.new.Goals as goal

pub invariant_of-result : goal.invariant_of-result
invariant_of-result c =
    let file = c.new-2.ensures.file ∙ c.front.ensures in
    record { few = zero-le; short = omega (arith, ap length file, length-take 65536 c.args.file.now) }
