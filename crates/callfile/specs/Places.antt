-- What stands at a place of a file, and where a reader goes from there.
use Rattle.std.specs.Prelude.{◌≡◌, ℕ, ◌+◌, cond, List, length, drop, Some, None, Ok, Err, Option, Result, nat_lt}
use Rattle.rules.specs.declared.refusal.Stop.{Stop}
use Rattle.rules.specs.declared.refusal.Stop.TheVariants.{CutShort}
use Rattle.rules.specs.declared.refusal.Fault.{Fault}
use Rattle.callfile.specs.declared.call.Call.{Call}
use Rattle.callfile.specs.declared.reader.Reader.{Reader}
use Rattle.callfile.specs.Fields.{Tagged, front, laid}
use Rattle.callfile.specs.Calls.{call_of}

-- a call with how many bytes its field takes
abbrev pub measured : ℕ → Result Call Stop → Result (Call × ℕ) Stop
measured size (Ok call) = Ok (call, size)
measured size (Err stop) = Err stop

-- what a field comes to
abbrev pub heard : Option Tagged → Result (Call × ℕ) Stop
heard None = Err CutShort
heard (Some field) = measured (length (laid field)) (call_of field.tag field.value)

-- the call of the field at the front of these bytes, with how many bytes the field takes
abbrev pub first_call : List ℕ → Result (Call × ℕ) Stop
first_call bytes = heard (front bytes)

abbrev pub answered : ℕ → Result (Call × ℕ) Stop → Result Call Fault
answered place (Ok found) = Ok found.0
answered place (Err stop) = Err (record { stop = stop; place = place })

-- what a reader at a place answers: none at the end of the file (it stays shut, as `moved` does, since its laws suffice)
unfoldable pub decode : List ℕ → ℕ → Option (Result Call Fault)
decode file place = cond (nat_lt place (length file)) (Some (answered place (first_call (drop place file)))) None

abbrev pub past : ℕ → Result (Call × ℕ) Stop → ℕ
past place (Ok found) = place + found.1
past place (Err stop) = place

-- where it stands then: behind the call's field, or where it was
unfoldable pub moved : List ℕ → ℕ → ℕ
moved file place = past place (first_call (drop place file))

-- a reader answers the call, or the fault, at its place, and moves on in the same file
pub record Read (before : Reader) (item : Option (Result Call Fault)) (after : Reader) : Type 0 where
  pub file : after.file.now ≡ before.file.now
  pub answer : item ≡ decode before.file.now before.place
  pub place : after.place ≡ moved before.file.now before.place
