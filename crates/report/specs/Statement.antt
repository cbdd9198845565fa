-- The statement of a call file: what became of its calls on a new record, line by line.
use Rattle.std.specs.Prelude.{ℕ, ◌+◌, List, [], ◌∷◌, ◌++◌, take, Some, None, Option}
use Rattle.callfile.specs.declared.call.Call.{Call as FileCall}
use Rattle.callfile.specs.declared.call.Call.TheVariants.{Enrol, CloseRoll, Multiplier}
use Rattle.callfile.specs.Readings.{Reading, reading}
use Rattle.rules.specs.declared.refusal.Refusal.{Refusal}
use Rattle.rules.specs.declared.refusal.Fault.{Fault}
use Rattle.rules.specs.State.{State, fresh}
use Rattle.rules.specs.Calls.{Call, refusal, step}
use Rattle.rules.specs.Calls.Call.{multiplier, enrol, close_roll}
use Rattle.lines.specs.Lines.{refused_line, stopped_line}

-- the call on a record that a call of a file makes
abbrev pub called : FileCall → Call
called (Enrol name contribution) = enrol (record { name = name; contribution = contribution })
called CloseRoll = close_roll
called (Multiplier thousandths) = multiplier thousandths

-- a refused call has a line in front of those that follow, an accepted one has none
abbrev pub noted : ℕ → Option Refusal → List (List ℕ) → List (List ℕ)
noted count None lines = lines
noted count (Some cause) lines = refused_line count cause ∷ lines

-- the lines of calls on a record, where so many were made before them
abbrev pub refusals : State → ℕ → List FileCall → List (List ℕ)
refusals s count [] = []
refusals s count (c ∷ cs) = noted count (refusal s (called c)) (refusals (step s (called c)) (count + 1) cs)

abbrev pub stops : Option Fault → List (List ℕ)
stops None = []
stops (Some fault) = stopped_line fault ∷ []

-- the refusals, and then where the reading stopped
abbrev pub lines_of : State → ℕ → Reading → List (List ℕ)
lines_of s count r = refusals s count r.calls ++ stops r.stop

-- only the first 65,536 bytes of a file are read
abbrev pub statement : List ℕ → List (List ℕ)
statement file = lines_of fresh 0 (reading (take 65536 file))
