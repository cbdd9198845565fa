-- A call on a record, accepted or refused: what it did, and that the law goes on holding.
use Rattle.std.proofs.Common.{◌≡◌, ℕ, ◌<◌, ◌≤◌, List, length, Some, None, Ok, Option, Result, refl, sym, ap, arith, MatchOption}
use Rattle.ranked.specs.Order.{arrive, behind, Arrived}
use Rattle.rules.specs.declared.member.Member.{Member}
use Rattle.rules.specs.declared.refusal.Refusal.{Refusal}
use Rattle.rules.specs.Members.{by_name}
use Rattle.rules.specs.State.{State}
use Rattle.rules.specs.Calls.{Call, Did, Came, IsFair, answer, refusal, accepted}
use Rattle.rules.specs.Calls.Call.{enrol}
use Rattle.rules.specs.Laws.{Lawful}
use Rattle.rules.proofs.Histories.{went_on}
use Rattle.rules.proofs.Steps.{did, enrollable}
use Rattle.rules.proofs.EveryList.{lawful}
use Rattle.record.specs.View.{state_of}

-- the contract of every call
pub record Kept {A : Type 0} (s : State) (c : Call) (x : A) (t : State) (r : Result A Refusal) : Type 0 where
  pub did : Did s c x t r
  pub lawful : Lawful t
  pub came : Came t

-- where a call may be made, there is no cause to refuse it
no_cause : (cause : Option Refusal) → ◌≡◌ {A = Result (Unit {0}) Refusal} (Ok tt) (answer cause tt) → None ≡ cause
no_cause None e = refl
no_cause (Some r) e = let z : ◌≡◌ {A = ℕ} 0 1 = cc in absurd (omega arith)

pub accepts : {A : Type 0} (s : State) (c : Call) (x : A) (t : State) → Came s → ◌≡◌ {A = Result (Unit {0}) Refusal} (Ok tt) (answer (refusal s c) tt) → IsFair s c → t ≡ accepted s c → Kept s c x t (Ok x)
accepts s c x t came e f is =
    let d = did s c x (no_cause (refusal s c) e) f is in
    let goes = went_on came d in
    record { did = d; lawful = lawful goes; came = goes }

-- a table below its limit takes a new member in
joined_by : (m : Member) (r : Option ℕ) (limit : ℕ) (old new : List Member) → length old < limit → MatchOption r ((limit ≤ length old) × (new ≡ old)) (λ i. (length old < limit) × (i ≡ behind by_name m old) × Arrived by_name m old new) → new ≡ arrive by_name m old
joined_by m None limit old new room h = absurd (omega (arith, h.0))
joined_by m (Some i) limit old new room h = h.2.is

pub enrols : (s : State) (m : Member) (r : Option ℕ) (limit : ℕ) (new : List Member) → Came s → ◌≡◌ {A = Result (Unit {0}) Refusal} (Ok tt) (answer (refusal s (enrol m)) tt) → length m.name.bytes ≡ 8 → limit ≡ 60
    → MatchOption r ((limit ≤ length s.members) × (new ≡ s.members)) (λ i. (length s.members < limit) × (i ≡ behind by_name m s.members) × Arrived by_name m s.members new)
    → Kept {A = Unit {0}} s (enrol m) tt (state_of s.multiplier s.stage new) (Ok tt)
enrols s m r limit new came e f l h =
    let room = (enrollable s m (sym (no_cause (refusal s (enrol m)) e))).room in
    accepts s (enrol m) tt _ came e f (ap (state_of s.multiplier s.stage) (joined_by m r limit s.members new (omega arith) h))
