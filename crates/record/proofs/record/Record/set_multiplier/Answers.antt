use Rattle.std.proofs.Common.{refl}
use Rattle.rules.specs.Calls.Call.{multiplier}
use Rattle.record.specs.Look.{state}
use Rattle.rules.proofs.EveryList.{lawful}
use Rattle.record.proofs.Calls.{accepts}
use Rattle.record.proofs.record.Record.set_multiplier.Goals as goal

pub returns-in_err-takes_multiplier-clause-lawful : goal.returns-in_err-takes_multiplier-clause-lawful
returns-in_err-takes_multiplier-clause-lawful c = lawful c.args.self.now.came

pub invariant_of-self : goal.invariant_of-self
invariant_of-self c =
    let k = accepts {A = Unit {0}} (state c.args.self.now) (multiplier c.args.thousandths) tt _ c.args.self.now.came c.in_ok-takes_multiplier.ensures tt refl in
    record { came = k.came; room = c.args.self.now.room }

pub returns : goal.returns
returns c =
    let k = accepts {A = Unit {0}} (state c.args.self.now) (multiplier c.args.thousandths) tt _ c.args.self.now.came c.in_ok-takes_multiplier.ensures tt refl in
    record { did = k.did; lawful = k.lawful }
