-- What a record stands for.
use Rattle.ranked.specs.Table.{listed}
use Rattle.rules.specs.State.{State}
use Rattle.record.specs.View.{state_of}
use Rattle.record.specs.declared.record.Record.{Record}

abbrev pub state : Record → State
state r = state_of r.multiplier r.stage (listed r.members)
