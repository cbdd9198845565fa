-- The lines to come, before and after one more call of the file.
use Rattle.std.proofs.Common.{◌≡◌, ℕ, ◌+◌, ◌-◌, ◌<◌, ◌≤◌, Bool, false, cond, List, [], ◌∷◌, ◌++◌, length, Some, None, Ok, Err, Option, Result, sym, ap, ◌∙◌, arith}
use Rattle.callfile.specs.declared.call.Call.{Call as FileCall}
use Rattle.callfile.specs.Places.{decode, moved}
use Rattle.callfile.specs.Readings.{Reading, reading_from}
use Rattle.callfile.proofs.Readings.{reading_ends, reading-stops, reading_reads}
use Rattle.callfile.proofs.Steps.{place_moves}
use Rattle.rules.specs.declared.refusal.Refusal.{Refusal}
use Rattle.rules.specs.declared.refusal.Fault.{Fault}
use Rattle.rules.specs.State.{State}
use Rattle.rules.specs.Calls.{Did, refusal, answer}
use Rattle.lines.specs.Lines.{refused_line, stopped_line}
use Rattle.report.specs.Statement.{called, noted, lines_of}

-- the lines to come, from a place on
abbrev pub to_come : Bool → State → ℕ → List ℕ → ℕ → List (List ℕ)
to_come ended s count file place = cond ended [] (lines_of s count (reading_from file place))

abbrev pub to_read : Bool → List ℕ → ℕ → ℕ
to_read ended file place = cond ended 0 (length file - place + 1)

-- what there is to tell of a call by its answer
abbrev pub to_tell : ℕ → Result (Unit {0}) Refusal → List (List ℕ)
to_tell count (Ok x) = []
to_tell count (Err cause) = refused_line count cause ∷ []

noted_is : (count : ℕ) (o : Option Refusal) (r : Result (Unit {0}) Refusal) (lines rest : List (List ℕ)) → r ≡ answer o tt → noted count o lines ++ rest ≡ to_tell count r ++ (lines ++ rest)
noted_is count None r lines rest e = ap (λ x. to_tell count x ++ (lines ++ rest)) (sym e)
noted_is count (Some cause) r lines rest e = ap (λ x. to_tell count x ++ (lines ++ rest)) (sym e)

module _ (ended : Bool) (goes : ended ≡ false) (s : State) (count : ℕ) (file : List ℕ) (place : ℕ) where
  opened : (r : Reading) → reading_from file place ≡ r → to_come ended s count file place ≡ lines_of s count r
  opened r e = ap (λ b. cond b [] (lines_of s count (reading_from file place))) goes ∙ ap (lines_of s count) e

  pub at_end : None ≡ decode file place → to_come ended s count file place ≡ []
  at_end d = opened _ (reading_ends file place (sym d))

  pub at_stop : (fault : Fault) → Some (Err fault) ≡ decode file place → to_come ended s count file place ≡ stopped_line fault ∷ []
  at_stop fault d = opened _ (reading-stops file place fault (sym d))

  -- the file stays, and the reader has moved on
  pub at_call : (t : State) (file' : List ℕ) (place' : ℕ) (c : FileCall) (r : Result (Unit {0}) Refusal) → file' ≡ file → place' ≡ moved file place → Some (Ok c) ≡ decode file place
      → Did s (called c) tt t r → to_come ended s count file place ≡ to_tell count r ++ to_come ended t (count + 1) file' place'
  at_call t file' place' c r same went d did =
      let rest = reading_from file (moved file place) in
      opened _ (reading_reads file place c (sym d))
      ∙ noted_is count (refusal s (called c)) r _ _ did.answers
      ∙ ap (λ (x : State). to_tell count r ++ lines_of x (count + 1) rest) (sym did.becomes)
      ∙ ap (λ p. to_tell count r ++ lines_of t (count + 1) (reading_from file p)) (sym went)
      ∙ ap (λ f. to_tell count r ++ lines_of t (count + 1) (reading_from f place')) (sym same)
      ∙ ap (λ b. to_tell count r ++ cond b [] (lines_of t (count + 1) (reading_from file' place'))) (sym goes)

module _ (ended : Bool) (goes : ended ≡ false) (file : List ℕ) (place : ℕ) where
  is_open : (f : List ℕ) (p : ℕ) → to_read ended f p ≡ length f - p + 1
  is_open f p = ap (λ b. cond b 0 (length f - p + 1)) goes

  pub ends_nearer : 0 < to_read ended file place
  ends_nearer = omega (arith, is_open file place)

  pub call_within : (place' : ℕ) (c : FileCall) → place' ≡ moved file place → Some (Ok c) ≡ decode file place → (place < place') × (place' ≤ length file)
  call_within place' c went d =
      let m = place_moves file place in
      (omega (arith, m.on c (sym d)), omega (arith, m.within c (sym d)))

  pub call_nearer : (file' : List ℕ) (place' : ℕ) (c : FileCall) → file' ≡ file → place' ≡ moved file place → Some (Ok c) ≡ decode file place → to_read ended file' place' < to_read ended file place
  call_nearer file' place' c same went d =
      let w = call_within place' c went d in
      omega (arith, is_open file place, is_open file' place', ap length same, w)

-- at the end and at a fault the reader stays where it is
pub stays_at_end : (file : List ℕ) (place place' : ℕ) → place' ≡ moved file place → None ≡ decode file place → place' ≡ place
stays_at_end file place place' went d = went ∙ (place_moves file place).rests (sym d)

pub stays_at_fault : (file : List ℕ) (place place' : ℕ) (fault : Fault) → place' ≡ moved file place → Some (Err fault) ≡ decode file place → place' ≡ place
stays_at_fault file place place' fault went d = went ∙ (place_moves file place).stays fault (sym d)
