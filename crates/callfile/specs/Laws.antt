-- The laws of reading.
use Rattle.std.specs.Prelude.{◌≡◌, ℕ, ◌^◌, ◌<◌, ◌≤◌, List, [], ◌∷◌, ◌++◌, length, take, Some, None, Ok, Err, ◌≢◌}
use Rattle.std.specs.Int.Digits.{AllBelowBase}
use Rattle.rules.specs.declared.refusal.Stop.{Stop}
use Rattle.rules.specs.declared.refusal.Stop.TheVariants.{CutShort, UnknownTag, WrongLength}
use Rattle.rules.specs.declared.refusal.Fault.{Fault}
use Rattle.callfile.specs.declared.call.Call.{Call}
use Rattle.callfile.specs.Fields.{Tagged, tagged, front, laid}
use Rattle.callfile.specs.Calls.{said, encode, IsNamed, Fits}
use Rattle.callfile.specs.Places.{first_call, decode, moved}
use Rattle.callfile.specs.Readings.{ended, stopped_by, call_then, reading_from, reading}

-- the length of the value can be said in two bytes
abbrev pub Short : Tagged → Type 0
Short field = length field.value < 2 ^ 16

-- a field is found, whatever follows it
abbrev pub FieldFound : Type 0
FieldFound = (field : Tagged) (rest : List ℕ) → Short field → front (laid field ++ rest) ≡ Some field

-- none is found where its bytes break off
abbrev pub FieldCut : Type 0
FieldCut = (field : Tagged) (n : ℕ) → Short field → n < length (laid field) → front (take n (laid field)) ≡ None

-- a call is read back from its bytes, whatever follows them
abbrev pub ReadsBack : Type 0
ReadsBack = (call : Call) (rest : List ℕ) → Fits call → first_call (encode call ++ rest) ≡ Ok (call, length (encode call))

-- and it is read from no other bytes
abbrev pub ReadsOnly : Type 0
ReadsOnly =
    (bytes : List ℕ) (call : Call) (size : ℕ) → AllBelowBase 256 bytes → first_call bytes ≡ Ok (call, size) →
    (take size bytes ≡ encode call) × (size ≡ length (encode call)) × Fits call

-- a field that breaks off is cut short, whatever its tag and length
abbrev pub TellsCut : Type 0
TellsCut = (field : Tagged) (n : ℕ) → Short field → n < length (laid field) → first_call (take n (laid field)) ≡ Err CutShort

-- a whole field has an unknown tag where no call has that tag, whatever its length
abbrev pub TellsUnknown : Type 0
TellsUnknown =
    (field : Tagged) (rest : List ℕ) → Short field → ((call : Call) → (said call).tag ≢ field.tag) →
    first_call (laid field ++ rest) ≡ Err UnknownTag

-- a whole field with a call's tag has a wrong length where the call's value has another
abbrev pub TellsLength : Type 0
TellsLength =
    (call : Call) (value rest : List ℕ) → IsNamed call → Short (tagged (said call).tag value) → (length value ≢ length (said call).value) →
    first_call (laid (tagged (said call).tag value) ++ rest) ≡ Err WrongLength

-- how a reader moves from a place
pub record Moves (file : List ℕ) (place : ℕ) : Type 0 where
  -- it answers nothing at the end of the file, and only there
  pub end : length file ≤ place → decode file place ≡ None
  pub ends : decode file place ≡ None → length file ≤ place
  pub rests : decode file place ≡ None → moved file place ≡ place
  -- a fault tells the place, and the reader stays there and tells it again
  pub told : (fault : Fault) → decode file place ≡ Some (Err fault) → fault.place ≡ place
  pub stays : (fault : Fault) → decode file place ≡ Some (Err fault) → moved file place ≡ place
  pub again : (fault : Fault) → decode file place ≡ Some (Err fault) → decode file (moved file place) ≡ Some (Err fault)
  -- a call moves it on, and not past the end
  pub on : (call : Call) → decode file place ≡ Some (Ok call) → place < moved file place
  pub within : (call : Call) → decode file place ≡ Some (Ok call) → moved file place ≤ length file

abbrev pub PlaceMoves : Type 0
PlaceMoves = (file : List ℕ) (place : ℕ) → Moves file place

-- a reading goes on from a place as a reader does
pub record GoesOn (file : List ℕ) (place : ℕ) : Type 0 where
  pub ends : decode file place ≡ None → reading_from file place ≡ ended
  pub stops : (fault : Fault) → decode file place ≡ Some (Err fault) → reading_from file place ≡ stopped_by fault
  pub reads : (call : Call) → decode file place ≡ Some (Ok call) → reading_from file place ≡ call_then call (reading_from file (moved file place))

abbrev pub ReadingGoesOn : Type 0
ReadingGoesOn = (file : List ℕ) (place : ℕ) → GoesOn file place

-- the bytes of calls, one behind the other
abbrev pub file_of : List Call → List ℕ
file_of [] = []
file_of (call ∷ calls) = encode call ++ file_of calls

abbrev pub AllFit : List Call → Type 0
AllFit [] = Unit {0}
AllFit (call ∷ calls) = Fits call × AllFit calls

-- a file of calls is read as these calls, to its end
abbrev pub ReadsAll : Type 0
ReadsAll = (calls : List Call) → AllFit calls → reading (file_of calls) ≡ record { calls = calls; stop = None }

-- where bytes that make no call follow, the calls before them are read, and the fault has the place behind these
abbrev pub ReadsToFault : Type 0
ReadsToFault =
    (calls : List Call) (bad : List ℕ) (why : Stop) → AllFit calls → 0 < length bad → first_call bad ≡ Err why →
    reading (file_of calls ++ bad) ≡ record { calls = calls; stop = Some (record { stop = why; place = length (file_of calls) }) }
