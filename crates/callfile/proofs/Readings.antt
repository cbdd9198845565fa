-- A reading goes on from a place as a reader does.
use Rattle.std.proofs.Common.{◌≡◌, ℕ, zero, suc, ◌+◌, ◌≤◌, List, length, Some, None, Ok, Err, Option, Result, sym, refl, ap, ◌∙◌, arith}
use Rattle.rules.specs.declared.refusal.Fault.{Fault}
use Rattle.callfile.specs.declared.call.Call.{Call}
use Rattle.callfile.specs.Places.{decode, moved}
use Rattle.callfile.specs.Readings.{Reading, ended, stopped_by, call_then, gone_on, reading_by, reading_from}
use Rattle.callfile.specs.Laws.{ReadingGoesOn}
use Rattle.callfile.proofs.Steps.{decode_end, moved_call}

-- only a call makes what is read behind it matter
same_behind : (answer : Option (Result Call Fault)) (x y : Reading) → ((call : Call) → answer ≡ Some (Ok call) → x ≡ y) → gone_on answer x ≡ gone_on answer y
same_behind None x y f = refl
same_behind (Some (Err fault)) x y f = refl
same_behind (Some (Ok call)) x y f = ap (call_then call) (f call refl)

-- answers for the bytes that are left suffice
enough : (m n : ℕ) (file : List ℕ) (place : ℕ) → length file ≤ place + m → length file ≤ place + n → reading_by m file place ≡ reading_by n file place
enough zero zero file place h k = refl
enough zero (suc n) file place h k = sym (ap (λ a. gone_on a (reading_by n file (moved file place))) (decode_end file place (omega arith)))
enough (suc m) zero file place h k = ap (λ a. gone_on a (reading_by m file (moved file place))) (decode_end file place (omega arith))
enough (suc m) (suc n) file place h k =
    same_behind (decode file place) _ _
    (λ call e. let p = moved_call file place call e in enough m n file (moved file place) (omega arith) (omega arith))

-- the three laws in one
pub reading_step : (file : List ℕ) (place : ℕ) → reading_from file place ≡ gone_on (decode file place) (reading_from file (moved file place))
unfolding reading_from
reading_step file place = enough (length file) (suc (length file)) file place (omega arith) (omega arith)

pub reading_ends : (file : List ℕ) (place : ℕ) → decode file place ≡ None → reading_from file place ≡ ended
reading_ends file place e = reading_step file place ∙ ap (λ a. gone_on a (reading_from file (moved file place))) e

pub reading-stops : (file : List ℕ) (place : ℕ) (fault : Fault) → decode file place ≡ Some (Err fault) → reading_from file place ≡ stopped_by fault
reading-stops file place fault e = reading_step file place ∙ ap (λ a. gone_on a (reading_from file (moved file place))) e

pub reading_reads : (file : List ℕ) (place : ℕ) (call : Call) → decode file place ≡ Some (Ok call) →
    reading_from file place ≡ call_then call (reading_from file (moved file place))
reading_reads file place call e = reading_step file place ∙ ap (λ a. gone_on a (reading_from file (moved file place))) e

pub reading_goes_on : ReadingGoesOn
reading_goes_on file place = record {
  ends = reading_ends file place;
  stops = reading-stops file place;
  reads = reading_reads file place;
}
