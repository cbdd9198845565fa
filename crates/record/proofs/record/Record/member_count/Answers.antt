use Rattle.std.proofs.Common.{rules}
use Rattle.rules.proofs.EveryList.{lawful}
use Rattle.record.proofs.record.Record.member_count.Goals as goal

pub returns : goal.returns
returns c = record { count = search rules; lawful = lawful c.args.self.now.came }
