-- Calls are read back from their bytes.
use Rattle.std.proofs.Common.{◌≡◌, ℕ, ◌++◌, length, take, drop, Ok, refl, ap, ◌∙◌, arith, length-append}
use Rattle.std.proofs.lemmas.List.{take_at, drop_at}
use Rattle.rules.specs.declared.name.Name.{Name}
use Rattle.callfile.specs.declared.call.Call.{Call}
use Rattle.callfile.specs.declared.call.Call.TheVariants.{Enrol, CloseRoll, Multiplier}
use Rattle.callfile.specs.Numbers.{in_bytes}
use Rattle.callfile.specs.Calls.{said, encode, call_of, Fits}
use Rattle.callfile.specs.Places.{heard, measured}
use Rattle.callfile.specs.Laws.{Short, ReadsBack}
use Rattle.callfile.proofs.Bytes.{number_in}
use Rattle.callfile.proofs.Fronts.{front-found}

-- the value of an enrolment has sixteen bytes
pub enrol_size : (name : Name) (contribution : ℕ) → length name.bytes ≡ 8 → length (said (Enrol name contribution)).value ≡ 16
enrol_size name contribution h = length-append name.bytes (in_bytes 8 contribution) ∙ omega (arith, h)

-- what a call says makes that call
pub said_back : (call : Call) → Fits call → call_of (said call).tag (said call).value ≡ Ok call
said_back (Enrol name contribution) h =
    let front : take 8 (name.bytes ++ in_bytes 8 contribution) ≡ name.bytes = take_at name.bytes (in_bytes 8 contribution) 8 h.0.0 in
    let back : drop 8 (name.bytes ++ in_bytes 8 contribution) ≡ in_bytes 8 contribution = drop_at name.bytes (in_bytes 8 contribution) 8 h.0.0 in
    let size : length (name.bytes ++ in_bytes 8 contribution) ≡ 16 = enrol_size name contribution h.0.0 in
    let number = number_in 8 contribution h.1 in
    rw (size, front, back, number)
said_back CloseRoll h = refl
said_back (Multiplier thousandths) h = let a = number_in 4 thousandths h in rw a

said_short : (call : Call) → Fits call → Short (said call)
said_short (Enrol name contribution) h = omega (arith, enrol_size name contribution h.0.0)
said_short CloseRoll h = omega arith
said_short (Multiplier thousandths) h = omega arith

pub reads_back : ReadsBack
reads_back call rest h =
    ap heard (front-found (said call) rest (said_short call h)) ∙ ap (measured (length (encode call))) (said_back call h)
