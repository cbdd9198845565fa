-- One step of a reader.
use Rattle.std.proofs.Common.{◌≡◌, ℕ, ◌+◌, ◌-◌, ◌<◌, ◌≤◌, Bool, true, false, cond, ltb, List, length, take, drop, Some, None, Ok, Err, Option, Result, sym, refl, ap, ◌∙◌, arith}
use Rattle.std.proofs.lemmas.List.{take_rest, drop_all, length-drop}
use Rattle.std.proofs.lemmas.Bool.{lt-ltb, le-ltb, ltb-true, ltb-false}
use Rattle.rules.specs.declared.refusal.Fault.{Fault}
use Rattle.rules.specs.declared.refusal.Stop.{Stop}
use Rattle.callfile.specs.declared.call.Call.{Call}
use Rattle.callfile.specs.Fields.{Tagged, front, laid}
use Rattle.callfile.specs.Calls.{call_of}
use Rattle.callfile.specs.Places.{measured, heard, first_call, answered, decode, past, moved}
use Rattle.callfile.specs.Laws.{PlaceMoves}
use Rattle.callfile.proofs.Fronts.{front_within}

pub decode_is : (file : List ℕ) (place : ℕ) (r : Result (Call × ℕ) Stop) → place < length file →
    r ≡ first_call (take (length file - place) (drop place file)) → Some (answered place r) ≡ decode file place
unfolding decode
decode_is file place r h e =
    let t : ltb place (length file) ≡ true = lt-ltb _ _ h in
    rw t (ap (λ x. Some (answered place x)) (e ∙ ap first_call (take_rest file place)))

pub moved_is : (file : List ℕ) (place : ℕ) (r : Result (Call × ℕ) Stop) →
    r ≡ first_call (take (length file - place) (drop place file)) → past place r ≡ moved file place
unfolding moved
moved_is file place r e = ap (past place) (e ∙ ap first_call (take_rest file place))

-- at the end of the file
pub decode_end : (file : List ℕ) (place : ℕ) → length file ≤ place → decode file place ≡ None
unfolding decode
decode_end file place h = let t : ltb place (length file) ≡ false = le-ltb _ _ h in rw t

pub moved_end : (file : List ℕ) (place : ℕ) → length file ≤ place → moved file place ≡ place
unfolding moved
moved_end file place h = ap (λ bytes. past place (first_call bytes)) (drop_all place file h)

-- a call was read from a field, and takes the field's bytes
pub measured_is : (size n : ℕ) (r : Result Call Stop) (call : Call) → measured n r ≡ Ok (call, size) → (size ≡ n) × (r ≡ Ok call)
measured_is size n (Ok d) call e =
    let p : ◌≡◌ {A = Call × ℕ} (d, n) (call, size) = cc in
    (ap (λ q. q.1) (sym p), ap (λ q. Ok q.0) p)
measured_is size n (Err why) call e = let z : ◌≡◌ {A = ℕ} 0 1 = cc in absurd (omega arith)

-- of which there are three at least, and all are there
heard_size : (s : List ℕ) (o : Option Tagged) (call : Call) (n : ℕ) → front s ≡ o → heard o ≡ Ok (call, n) → (3 ≤ n) × (n ≤ length s)
heard_size s None call n e h = let z : ◌≡◌ {A = ℕ} 0 1 = cc in absurd (omega arith)
heard_size s (Some f) call n e h =
    let p = (measured_is n (length (laid f)) (call_of f.tag f.value) call h).0 in
    let q = front_within s f e in
    (omega arith, omega arith)

pub call_size : (s : List ℕ) (call : Call) (n : ℕ) → first_call s ≡ Ok (call, n) → (3 ≤ n) × (n ≤ length s)
call_size s call n h = heard_size s (front s) call n refl h

pub call_within : (file : List ℕ) (place : ℕ) (call : Call) (size : ℕ) → place < length file →
    Ok (call, size) ≡ first_call (take (length file - place) (drop place file)) → place + size ≤ length file
call_within file place call size h e =
    let n = (call_size (drop place file) call size (sym (e ∙ ap first_call (take_rest file place)))).1 in
    omega (arith, length-drop place file)

-- what an answer tells of the test for the end, b, and of the call at the front, r
module _ (place : ℕ) where
  none_from : (b : Bool) (r : Result (Call × ℕ) Stop) → cond b (Some (answered place r)) None ≡ None → b ≡ false
  none_from true r e = let z : ◌≡◌ {A = ℕ} 0 1 = cc in absurd (omega arith)
  none_from false r e = refl

  fault_from : (b : Bool) (r : Result (Call × ℕ) Stop) (fault : Fault) → cond b (Some (answered place r)) None ≡ Some (Err fault) →
      (fault.place ≡ place) × (past place r ≡ place)
  fault_from true (Ok found) fault e = let z : ◌≡◌ {A = ℕ} 0 1 = cc in absurd (omega arith)
  fault_from true (Err why) fault e =
      let p : ◌≡◌ {A = Fault} (record { stop = why; place = place }) fault = cc in
      (ap (λ f. f.place) (sym p), refl)
  fault_from false r fault e = let z : ◌≡◌ {A = ℕ} 0 1 = cc in absurd (omega arith)

  call_from : (b : Bool) (r : Result (Call × ℕ) Stop) (call : Call) → cond b (Some (answered place r)) None ≡ Some (Ok call) →
      (n : ℕ) × (b ≡ true) × (r ≡ Ok (call, n))
  call_from true (Ok found) call e =
      let p : found.0 ≡ call = cc in
      (found.1, refl, ap (λ d. Ok (d, found.1)) p)
  call_from true (Err why) call e = let z : ◌≡◌ {A = ℕ} 0 1 = cc in absurd (omega arith)
  call_from false r call e = let z : ◌≡◌ {A = ℕ} 0 1 = cc in absurd (omega arith)

pub moved_call : (file : List ℕ) (place : ℕ) (call : Call) → decode file place ≡ Some (Ok call) →
    (place < moved file place) × (moved file place ≤ length file)
unfolding decode moved
moved_call file place call e =
    let t = call_from place (ltb place (length file)) (first_call (drop place file)) call e in
    let before = ltb-true place (length file) t.1 in
    let size = call_size (drop place file) call t.0 t.2 in
    let behind : moved file place ≡ place + t.0 = ap (past place) t.2 in
    (omega arith, omega (arith, length-drop place file))

pub decode_none : (file : List ℕ) (place : ℕ) → decode file place ≡ None → length file ≤ place
unfolding decode
decode_none file place e = ltb-false place (length file) (none_from place _ (first_call (drop place file)) e)

pub moved_fault : (file : List ℕ) (place : ℕ) (fault : Fault) → decode file place ≡ Some (Err fault) → (fault.place ≡ place) × (moved file place ≡ place)
unfolding decode moved
moved_fault file place fault e = fault_from place (ltb place (length file)) (first_call (drop place file)) fault e

pub place_moves : PlaceMoves
place_moves file place = record {
  end = decode_end file place;
  ends = decode_none file place;
  rests = λ e. moved_end file place (decode_none file place e);
  told = λ fault e. (moved_fault file place fault e).0;
  stays = λ fault e. (moved_fault file place fault e).1;
  again = λ fault e. ap (decode file) (moved_fault file place fault e).1 ∙ e;
  on = λ call e. (moved_call file place call e).0;
  within = λ call e. (moved_call file place call e).1;
}
