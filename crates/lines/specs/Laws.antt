-- The law of slots.
use Rattle.std.specs.Prelude.{◌≡◌}
use Rattle.calls.specs.State.{State}
use Rattle.lines.specs.Statement.{closing_lines}
use Rattle.lines.specs.Slots.{slots_from}

-- all slots, one after the other, give what the statement says of a record
abbrev pub SlotsAreStatement : Type 0
SlotsAreStatement = (s : State) → slots_from s 1042 0 ≡ closing_lines s
