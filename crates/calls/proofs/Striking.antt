-- What a strike and a residual make of the rounds of their package.
use Rattle.std.proofs.Common.{◌≡◌, ℕ, ◌<◌, Bool, true, false, cond, not, ltb, leb, [], length, is_some, Some, None, Option, sym, refl, ap, ◌∙◌, subst, arith}
use Rattle.std.specs.Option.{option_map}
use Rattle.std.proofs.ByRecursion.{All-get_or}
use Rattle.std.proofs.lemmas.Bool.{lt-ltb}
use Rattle.std.proofs.lemmas.Bool.Decides.{nat_tests}
use Rattle.rules.specs.Minimums.{all_parts}
use Rattle.rules.specs.Residuals.{cut_offer}
use Rattle.calls.specs.declared.round_number.RoundNumber.{RoundNumber}
use Rattle.calls.specs.declared.round_number.RoundNumber.TheVariants.{First, Second}
use Rattle.calls.specs.Packages.{Bidding, Residual, Package, no_package, blank, first_with, residual_with, struck_in, with_strike, with_residual}
use Rattle.calls.specs.State.{State, package_at}
use Rattle.calls.specs.Held.{Held, first_held, second_held, held_of, held_in}
use Rattle.calls.specs.Calls.{causes, refusal, accepted}
use Rattle.calls.specs.Calls.Call.{strike, residual}
use Rattle.calls.specs.Limits.{KeptLater, KeptPackage, Bounded}
use Rattle.calls.specs.Laws.{StruckWell, CutWell}
use Rattle.calls.proofs.Steps.{absent, not_not}
use Rattle.calls.proofs.Changes.{length-changed, get_d_changed}
use Rattle.calls.proofs.Keeping.{either_of}
use Rattle.calls.proofs.HeldRounds.{solid_held, divided_well, cond_some}

-- ---- a strike

first_struck : (n : ℕ) (first : Bidding) (o : Option Residual) → KeptLater n first o → (first_with struck_in first o).struck ≡ true
first_struck n first None l = refl
first_struck n first (Some r) l = l.2

second_struck : (t : State) (p : Package) (o : Option Residual) (h : Held) → option_map (second_held t p) (residual_with struck_in o) ≡ Some h → h.struck ≡ true
second_struck t p None h e = let z : ◌≡◌ {A = ℕ} 0 1 = cc in absurd (omega arith)
second_struck t p (Some r) h e =
    let same : second_held t p (record { parts = r.parts; second = struck_in r.second }) ≡ h = cc in
    ap (λ (x : Held). x.struck) (sym same)

struck_of : (t : State) (p : Package) (n : ℕ) → KeptLater n p.first p.residual → (m : RoundNumber) (h : Held) → held_of t (with_strike p) m ≡ Some h → h.struck ≡ true
struck_of t p n l First h e =
    let same : first_held t (with_strike p) ≡ h = cc in
    ap (λ (x : Held). x.struck) (sym same) ∙ first_struck n p.first p.residual l
struck_of t p n l Second h e = second_struck t (with_strike p) p.residual h e

pub struck_well : (s : State) (k : ℕ) → Bounded s → refusal s (strike k) ≡ None → Bounded (accepted s (strike k)) → StruckWell (accepted s (strike k)) k
struck_well s k b clear after m h e =
    let t = accepted s (strike k) in
    let there : leb (length s.packages) k ≡ false = (absent (causes s (strike k)) clear).1.0 in
    let inside : k < length s.packages = grind (arith, nat_tests) in
    let kept = All-get_or (KeptPackage (length s.members)) s.packages k no_package inside b.packages_kept in
    let is : package_at t k ≡ with_strike (package_at s k) = get_d_changed with_strike s.packages k no_package inside in
    let here = (cond_some (ltb k (length t.packages)) (held_of t (package_at t k) m) h e).1 in
    let here2 : held_of t (with_strike (package_at s k)) m ≡ Some h = subst (λ (p : Package). held_of t p m ≡ Some h) is here in
    (struck_of t (package_at s k) (length s.members) kept.later m h here2, divided_well h (solid_held t after k m h e))

-- ---- a residual

module _ (s : State) (k parts : ℕ) (clear : refusal s (residual k parts) ≡ None) where
  abbrev then : State
  then = accepted s (residual k parts)

  inside : k < length s.packages
  inside = let there : leb (length s.packages) k ≡ false = (absent (causes s (residual k parts)) clear).1.0 in grind (arith, nat_tests)

  entry : package_at then k ≡ with_residual parts (package_at s k)
  entry = get_d_changed (with_residual parts) s.packages k no_package inside

  held : (m : RoundNumber) (h : Held) → held_in then k m ≡ Some h → held_of then (with_residual parts (package_at s k)) m ≡ Some h
  held m h e =
      subst (λ (p : Package). held_of then p m ≡ Some h) entry (cond_some (ltb k (length then.packages)) (held_of then (package_at then k) m) h e).1

  present : ltb k (length then.packages) ≡ true
  present = lt-ltb k (length then.packages) (subst (λ n. k < n) (sym (length-changed (with_residual parts) s.packages k)) inside)

  abbrev second : Held
  second = second_held then (with_residual parts (package_at s k)) (record { parts = parts; second = blank })

  first_cut : (h : Held) → held_in then k First ≡ Some h → (h.struck ≡ true) × (h.offer ≡ cut_offer parts)
  first_cut h e =
      let same : first_held then (with_residual parts (package_at s k)) ≡ h = cc (held First h e) in
      let ready = either_of (not (package_at s k).first.struck) (is_some (package_at s k).residual) (absent (causes s (residual k parts)) clear).1.1.1.0 in
      (ap (λ (x : Held). x.struck) (sym same) ∙ not_not (package_at s k).first.struck ready.0, ap (λ (x : Held). x.offer) (sym same))

  second_open : (h : Held) → held_in then k Second ≡ Some h → (h.struck ≡ false) × (h.offer ≡ all_parts) × (h.round.bids ≡ [])
  second_open h e =
      let same : second ≡ h = cc (held Second h e) in
      (ap (λ (x : Held). x.struck) (sym same), ap (λ (x : Held). x.offer) (sym same), ap (λ (x : Held). x.round.bids) (sym same))

  pub cut_well : Bounded then → CutWell then k parts
  cut_well after = record {
    first = λ h e. ((first_cut h e).0, (first_cut h e).1, divided_well h (solid_held then after k First h e));
    second = second_open;
    opened = (second, ap (λ (b : Bool). cond b (held_of then (package_at then k) Second) None) present ∙ ap (λ (p : Package). held_of then p Second) entry);
  }
