use Rattle.std.proofs.Common.{arith, rules}
use Rattle.lines.proofs.Sizes.{line_told}
use Rattle.report.proofs.report.Report.line.Goals as goal

pub returns-in-Some-clause-answer : goal.returns-in-Some-clause-answer
returns-in-Some-clause-answer c =
    let told = line_told c.put_line.result c.in-Some.line c.in-Some.ensures.modest (omega arith) c.put_line.ensures in search rules

pub returns-in-Some-clause-fits : goal.returns-in-Some-clause-fits
returns-in-Some-clause-fits c =
    let told = line_told c.put_line.result c.in-Some.line c.in-Some.ensures.modest (omega arith) c.put_line.ensures in search rules

pub returns-in-Some-clause-memory : goal.returns-in-Some-clause-memory
returns-in-Some-clause-memory c =
    let told = line_told c.put_line.result c.in-Some.line c.in-Some.ensures.modest (omega arith) c.put_line.ensures in search rules
