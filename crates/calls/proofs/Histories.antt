-- A record goes on having come from a new one.
use Rattle.std.proofs.Common.{List, [], ◌∷◌, Result, sym, refl, ap, ◌∙◌, subst}
use mathlib.Core.Logic.{∥∥₁_map, ∥∥₁_elim}
use Rattle.rules.specs.declared.refusal.Refusal.{Refusal}
use Rattle.calls.specs.State.{State, fresh}
use Rattle.calls.specs.Calls.{Call, Did, step, after, IsFair, Fair, Came}

pub began : Came fresh
began = ∣ ([], (tt, refl)) ∣₁

-- by one call more
pub went_on : {A : Type 0} {s t : State} {c : Call} {x : A} {r : Result A Refusal} → Came s → Did s c x t r → Came t
went_on {c = c} came d =
    ∥∥₁_map came
    (λ p. (c ∷ p.0, ((subst (λ (s : State). IsFair s c) p.1.1 d.fairly, p.1.0), d.becomes ∙ ap (λ (s : State). step s c) p.1.1)))

-- what holds after every list of calls, and is a proposition, holds of every record
pub of_came : (P : State → Type 0) → ((s : State) → IsProp (P s)) → ((h : List Call) → Fair h → P (after h)) → (s : State) → Came s → P s
of_came P prop every s came = ∥∥₁_elim came (prop s) (λ p. subst P (sym p.1.1) (every p.0 p.1.0))
