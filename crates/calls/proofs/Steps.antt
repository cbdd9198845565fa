-- The two ways of a call: accepted and refused.
use Rattle.std.proofs.Common.{◌≡◌, ℕ, ◌<◌, ◌≤◌, Bool, true, false, not, leb, List, [], ◌∷◌, length, is_some, Some, None, Ok, Err, sym, refl, ap, ◌∙◌, arith}
use Rattle.std.proofs.lemmas.Bool.Decides.{nat_tests}
use Rattle.rules.specs.declared.member.Member.{Member}
use Rattle.rules.specs.declared.refusal.Refusal.{Refusal}
use Rattle.rules.specs.Names.{is_plain}
use Rattle.rules.specs.Members.{place_of}
use Rattle.calls.specs.State.{State}
use Rattle.calls.specs.Calls.{Call, outside, causes, uppermost, refusal, accepted, unless, answer, IsFair, Did}
use Rattle.calls.specs.Calls.Call.{enrol}

-- no cause of a list is there
abbrev pub Absent : List (Bool × Refusal) → Type 0
Absent [] = Unit {0}
Absent (p ∷ ps) = (p.0 ≡ false) × Absent ps

absent_more : (b : Bool) (r : Refusal) (ps : List (Bool × Refusal)) → (uppermost ps ≡ None → Absent ps) → uppermost ((b, r) ∷ ps) ≡ None → (b ≡ false) × Absent ps
absent_more true r ps ih h = absurd (let z : ◌≡◌ {A = ℕ} 0 1 = cc in omega arith)
absent_more false r ps ih h = (refl, ih h)

pub absent : (ps : List (Bool × Refusal)) → uppermost ps ≡ None → Absent ps
absent [] h = tt
absent (p ∷ ps) h = absent_more p.0 p.1 ps (absent ps) h

pub did : {A : Type 0} (s : State) (c : Call) (x : A) {t : State} → None ≡ refusal s c → IsFair s c → t ≡ accepted s c → Did s c x t (Ok x)
did s c x {t} e f is = record {
  fairly = f;
  becomes = is ∙ ap (λ o. unless o (accepted s c) s) e;
  answers = ap (λ o. answer o x) e;
}

pub did_not : {A : Type 0} (s : State) (c : Call) (x : A) (r : Refusal) → Some r ≡ refusal s c → IsFair s c → Did s c x s (Err r)
did_not s c x r e f = record {
  fairly = f;
  becomes = ap (λ o. unless o (accepted s c) s) e;
  answers = ap (λ o. answer o x) e;
}

-- what an accepted call has shown of its arguments and of the record
pub within : (low high x : ℕ) → outside low high x ≡ false → (low ≤ x) × (x ≤ high)
within low high x h = (grind (arith, nat_tests), grind (arith, nat_tests))

pub record Enrollable (s : State) (m : Member) : Type 0 where
  pub low : 1 ≤ m.contribution
  pub high : m.contribution ≤ 25000000
  pub plain : is_plain m.name.bytes ≡ true
  pub new : is_some (place_of m.name s.members) ≡ false
  pub room : length s.members < 60

pub not_not : (b : Bool) → not b ≡ false → b ≡ true
not_not true h = refl
not_not false h = sym h

pub enrollable : (s : State) (m : Member) → refusal s (enrol m) ≡ None → Enrollable s m
enrollable s m e =
    let a = absent (causes s (enrol m)) e in
    let amount = within 1 25000000 m.contribution a.1.0 in
    let room : leb 60 (length s.members) ≡ false = a.1.1.1.1.0 in
    record { low = amount.0; high = amount.1; plain = not_not _ a.1.1.0; new = a.1.1.1.0; room = grind (arith, nat_tests) }
