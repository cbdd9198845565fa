-- From one slot to the next, and what each slot tells: for a run over the slots.
use Rattle.std.proofs.Common.{◌≡◌, ℕ, suc, ◌+◌, ◌-◌, ◌/◌, ◌%◌, ◌<◌, ◌≤◌, List, ◌++◌, Some, None, Option, refl, ap, ◌∙◌, arith}
use Rattle.std.specs.Option.{option_map}
use Rattle.std.proofs.lemmas.Bool.{lt-ltb, le-ltb, ne_eqb}
use Rattle.calls.specs.State.{State}
use Rattle.calls.specs.Answers.{then_of}
use Rattle.calls.specs.Questions.{charge_of}
use Rattle.lines.specs.Statement.{if_any, member_in}
use Rattle.lines.specs.Slots.{round_in, charge_in, turn_of, slot_line, slots_from}

-- the slots from j on are slot j and those from the next on
pub slots_step : (s : State) (j : ℕ) → j < 1042 → slots_from s (1042 - j) j ≡ if_any (slot_line s j) ++ slots_from s (1042 - (j + 1)) (j + 1)
unfolding slots_from
slots_step s j h =
    let e : 1042 - j ≡ suc (1042 - (j + 1)) = omega arith in
    ap (λ m. slots_from s m j) e

-- a slot that gives no line is passed over
pub slots_skip : (s : State) (j : ℕ) → j < 1042 → slot_line s j ≡ None → slots_from s (1042 - j) j ≡ slots_from s (1042 - (j + 1)) (j + 1)
slots_skip s j h e = slots_step s j h ∙ ap (λ o. if_any o ++ slots_from s (1042 - (j + 1)) (j + 1)) e

pub slot_of_round : (s : State) (j : ℕ) → j < 976 → j % 61 ≡ 0 → slot_line s j ≡ round_in s (j / 122) (turn_of (j % 122 / 61))
slot_of_round s j h e =
    let below = lt-ltb j 976 h in
    simp (below, e)

pub slot_of_member : (s : State) (j : ℕ) → j < 976 → (j % 61 ≡ 0 → ⊥) → slot_line s j ≡ member_in s (j / 122) (turn_of (j % 122 / 61)) (j % 61 - 1)
slot_of_member s j h other =
    let below = lt-ltb j 976 h in
    let apart = ne_eqb (j % 61) 0 other in
    simp (below, apart)

pub slot_of_charge : (s : State) (j : ℕ) → 976 ≤ j → j < 1040 → slot_line s j ≡ charge_in s (j - 976)
slot_of_charge s j past short =
    let a = le-ltb j 976 past in
    let b = lt-ltb j 1040 short in
    simp (a, b)

-- a settlement kept charges where there is one for account 0
pub charges_asked : (s : State) (o : Option (List ℕ)) → then_of s.charges (λ _. o) ≡ then_of (charge_of s 0) (λ _. o)
charges_asked s o =
    elim s.charges as (λ charges. then_of charges (λ _. o) ≡ then_of (option_map (λ f. f 0) charges) (λ _. o)) [ None ↦ refl | Some f ↦ refl ]
