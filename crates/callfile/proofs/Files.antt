-- A file of calls is read as these calls.
use Rattle.std.proofs.Common.{◌≡◌, ℕ, ◌+◌, ◌<◌, true, ltb, List, [], ◌∷◌, ◌++◌, length, drop, Some, None, Ok, sym, refl, ap, ◌∙◌, append_assoc, append-nil, add-zero, zero-add, arith}
use lib.Seq.{drop-append_seam}
use Rattle.std.proofs.lemmas.List.{length-append, length-drop, drop-drop}
use Rattle.std.proofs.lemmas.Bool.{lt-ltb}
use Rattle.callfile.specs.declared.call.Call.{Call}
use Rattle.callfile.specs.Calls.{encode}
use Rattle.callfile.specs.Places.{first_call, answered, decode, past, moved}
use Rattle.callfile.specs.Readings.{Reading, call_then, reading_from}
use Rattle.callfile.specs.Laws.{file_of, AllFit, ReadsAll, ReadsToFault}
use Rattle.callfile.proofs.Backs.{reads_back}
use Rattle.callfile.proofs.Steps.{decode_end}
use Rattle.callfile.proofs.Readings.{reading_ends, reading-stops, reading_reads}

abbrev pub calls_then : List Call → Reading → Reading
calls_then calls rest = record { calls = calls ++ rest.calls; stop = rest.stop }

-- what stands at a place, from the bytes there
decode_at : (file : List ℕ) (place : ℕ) (bytes : List ℕ) → drop place file ≡ bytes → 0 < length bytes →
    decode file place ≡ Some (answered place (first_call bytes))
unfolding decode
decode_at file place bytes e h =
    let l = ap length e in
    let t : ltb place (length file) ≡ true = lt-ltb _ _ (omega (arith, length-drop place file)) in
    rw (t, e)

-- the calls at a place are read, and then what is behind them
pub reading_over : (file : List ℕ) (place : ℕ) (calls : List Call) (rest : List ℕ) → AllFit calls → drop place file ≡ file_of calls ++ rest →
    reading_from file place ≡ calls_then calls (reading_from file (place + length (file_of calls)))
unfolding moved
reading_over file place [] rest h e = ap (reading_from file) (sym (add-zero place))
reading_over file place (call ∷ calls) rest h e =
    let bytes : drop place file ≡ encode call ++ (file_of calls ++ rest) = e ∙ append_assoc (encode call) (file_of calls) rest in
    let back = reads_back call (file_of calls ++ rest) h.0 in
    let here : decode file place ≡ Some (Ok call) = decode_at file place _ bytes (omega arith) ∙ ap (λ r. Some (answered place r)) back in
    let on : moved file place ≡ place + length (encode call) = ap (λ b. past place (first_call b)) bytes ∙ ap (past place) back in
    let left : drop (place + length (encode call)) file ≡ file_of calls ++ rest =
    sym (drop-drop (length (encode call)) place file) ∙ (ap (drop (length (encode call))) bytes ∙ drop-append_seam (encode call) (file_of calls ++ rest)) in
    let far : (place + length (encode call)) + length (file_of calls) ≡ place + length (encode call ++ file_of calls) =
    omega (arith, length-append (encode call) (file_of calls)) in
    reading_reads file place call here
    ∙ (ap (λ p. call_then call (reading_from file p)) on
    ∙ (ap (call_then call) (reading_over file (place + length (encode call)) calls rest h.1 left)
    ∙ ap (λ p. call_then call (calls_then calls (reading_from file p))) far))

pub reads_all : ReadsAll
reads_all calls h =
    let over = reading_over (file_of calls) 0 calls [] h (sym (append-nil (file_of calls))) in
    let end = reading_ends (file_of calls) (0 + length (file_of calls)) (decode_end (file_of calls) (0 + length (file_of calls)) (omega arith)) in
    over ∙ (ap (calls_then calls) end ∙ ap (λ c. record { calls = c; stop = None }) (append-nil calls))

pub reads_to_fault : ReadsToFault
reads_to_fault calls bad why h n e =
    let over = reading_over (file_of calls ++ bad) 0 calls bad h refl in
    let here = decode_at (file_of calls ++ bad) (length (file_of calls)) bad (drop-append_seam (file_of calls) bad) n ∙ ap (λ r. Some (answered (length (file_of calls)) r)) e in
    let stop = reading-stops (file_of calls ++ bad) (length (file_of calls)) _ here in
    over ∙ (ap (λ p. calls_then calls (reading_from (file_of calls ++ bad) p)) (zero-add (length (file_of calls)))
    ∙ (ap (calls_then calls) stop ∙ ap (λ c. record { calls = c; stop = Some (record { stop = why; place = length (file_of calls) }) }) (append-nil calls)))
