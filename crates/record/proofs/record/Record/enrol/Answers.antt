use Rattle.std.proofs.Common.{◌≡◌, length, ◌∙◌, rules}
use Rattle.ranked.specs.Table.{listed}
use Rattle.record.specs.Look.{state}
use Rattle.rules.proofs.EveryList.{lawful}
use Rattle.record.proofs.Calls.{enrols}
use Rattle.record.proofs.record.Record.enrol.Goals as goal

pub returns-in_err-takes_member-clause-lawful : goal.returns-in_err-takes_member-clause-lawful
returns-in_err-takes_member-clause-lawful c = lawful c.args.self.now.came

pub invariant_of-self : goal.invariant_of-self
invariant_of-self c =
    let eight : length c.args.name.bytes ≡ 8 = search rules in
    let k = enrols (state c.args.self.now) (record { name = c.args.name; contribution = c.args.contribution }) c.insert.result c.args.self.now.members.limit (listed c.insert.new.self) c.args.self.now.came c.in_ok-takes_member.ensures eight c.args.self.now.room c.insert.ensures.arrived in
    record { came = k.came; room = c.insert.ensures.limit ∙ c.args.self.now.room }

pub returns : goal.returns
returns c =
    let eight : length c.args.name.bytes ≡ 8 = search rules in
    let k = enrols (state c.args.self.now) (record { name = c.args.name; contribution = c.args.contribution }) c.insert.result c.args.self.now.members.limit (listed c.insert.new.self) c.args.self.now.came c.in_ok-takes_member.ensures eight c.args.self.now.room c.insert.ensures.arrived in
    record { did = k.did; lawful = k.lawful }
