-- Calls: what each says in its field, and which call a field makes.
use Rattle.std.specs.Prelude.{◌≡◌, ℕ, ◌^◌, ◌<◌, cond, List, [], ◌++◌, length, take, drop, Ok, Err, Result, ◌==◌}
use Rattle.std.specs.Int.Digits.{AllBelowBase}
use Rattle.rules.specs.declared.refusal.Stop.{Stop}
use Rattle.rules.specs.declared.refusal.Stop.TheVariants.{UnknownTag, WrongLength}
use Rattle.callfile.specs.declared.call.Call.{Call}
use Rattle.callfile.specs.declared.call.Call.TheVariants.{Enrol, CloseRoll, Multiplier}
use Rattle.callfile.specs.Numbers.{number_of, in_bytes}
use Rattle.callfile.specs.Fields.{Tagged, tagged, laid}

-- the tag and the value of each call
abbrev pub said : Call → Tagged
said (Enrol name contribution) = tagged 1 (name.bytes ++ in_bytes 8 contribution)
said CloseRoll = tagged 2 []
said (Multiplier thousandths) = tagged 8 (in_bytes 4 thousandths)

-- the bytes of a call
abbrev pub encode : Call → List ℕ
encode call = laid (said call)

-- a name has eight bytes
abbrev pub IsNamed : Call → Type 0
IsNamed (Enrol name contribution) = length name.bytes ≡ 8
IsNamed CloseRoll = Unit {0}
IsNamed (Multiplier thousandths) = Unit {0}

-- and the name and the numbers of a call have room in its field
abbrev pub Fits : Call → Type 0
Fits (Enrol name contribution) = ((length name.bytes ≡ 8) × AllBelowBase 256 name.bytes) × (contribution < 2 ^ 64)
Fits CloseRoll = Unit {0}
Fits (Multiplier thousandths) = thousandths < 2 ^ 32

-- a call whose value has to have n bytes
abbrev pub sized : ℕ → List ℕ → Call → Result Call Stop
sized n value call = cond (length value == n) (Ok call) (Err WrongLength)

-- the call that a value makes under a tag
abbrev pub call_of : ℕ → List ℕ → Result Call Stop
call_of tag value =
    cond (tag == 1) (sized 16 value (Enrol (record { bytes = take 8 value }) (number_of (drop 8 value))))
    (cond (tag == 2) (sized 0 value CloseRoll)
    (cond (tag == 8) (sized 4 value (Multiplier (number_of value)))
    (Err UnknownTag)))
