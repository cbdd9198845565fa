-- What a whole file says: its calls up to its end or its first fault.
use Rattle.std.specs.Prelude.{ℕ, zero, suc, List, [], ◌∷◌, length, Some, None, Ok, Err, Option, Result}
use Rattle.rules.specs.declared.refusal.Fault.{Fault}
use Rattle.callfile.specs.declared.call.Call.{Call}
use Rattle.callfile.specs.Places.{decode, moved}

pub record Reading : Type 0 where
  pub calls : List Call
  pub stop : Option Fault

-- nothing is left
abbrev pub ended : Reading
ended = record { calls = []; stop = None }

abbrev pub stopped_by : Fault → Reading
stopped_by fault = record { calls = []; stop = Some fault }

abbrev pub call_then : Call → Reading → Reading
call_then call rest = record { calls = call ∷ rest.calls; stop = rest.stop }

-- what is read where a reader answers so, and `rest` is read from where it stands then
abbrev pub gone_on : Option (Result Call Fault) → Reading → Reading
gone_on None rest = ended
gone_on (Some (Err fault)) rest = stopped_by fault
gone_on (Some (Ok call)) rest = call_then call rest

-- by so many answers at most, from a place
abbrev pub reading_by : ℕ → List ℕ → ℕ → Reading
reading_by zero file place = ended
reading_by (suc more) file place = gone_on (decode file place) (reading_by more file (moved file place))

-- from a place to the end: each field has three bytes at least, so as many answers as bytes suffice
unfoldable pub reading_from : List ℕ → ℕ → Reading
reading_from file place = reading_by (length file) file place

abbrev pub reading : List ℕ → Reading
reading file = reading_from file 0
