-- All slots together are what the statement says of a record.
use Rattle.std.proofs.Common.{◌≡◌, ℕ, zero, suc, ◌+◌, ◌-◌, ◌*◌, ◌/◌, ◌%◌, ◌<◌, Bool, true, false, List, [], ◌∷◌, ◌++◌, Some, None, Option, sym, refl, ap, ◌∙◌, append_assoc, append-nil, add-zero, zero-add, arith}
use Rattle.std.specs.Option.{option_map}
use Rattle.std.proofs.lemmas.Nat.{div-mul-add, mod-mul-add}
use Rattle.std.proofs.lemmas.Bool.{lt-ltb, le-ltb, ne_eqb}
use Rattle.calls.specs.declared.answers.MemberResult.{MemberResult}
use Rattle.calls.specs.declared.answers.RoundPrices.{RoundPrices}
use Rattle.calls.specs.declared.outcome.Outcome.{Outcome}
use Rattle.calls.specs.declared.round_number.RoundNumber.{RoundNumber}
use Rattle.calls.specs.declared.round_number.RoundNumber.TheVariants.{First, Second}
use Rattle.calls.specs.State.{State}
use Rattle.calls.specs.Held.{Held, held_in}
use Rattle.calls.specs.Answers.{when_so, then_of, round_prices, member_result}
use Rattle.calls.specs.Questions.{name_of, prices_of_round, result_of_member}
use Rattle.lines.specs.Lines.{round_line, unborne_line, surplus_line}
use Rattle.lines.specs.Statement.{gathered, if_any, lines_for, served_line, member_in, round_lines, rounds_lines, charged_line, charges_lines, settlement_lines, closing_lines}
use Rattle.lines.specs.Slots.{round_in, unborne_in, surplus_in, turn_of, round_slot, slot_line, slots_from}
use Rattle.lines.proofs.Gathering.{gathered_same, gathered_none, gathered-add, gathered-mul}

-- ---- a round

never : {A B : Type 0} {x : A} → Some x ≡ None → B
never e = let z : ◌≡◌ {A = ℕ} 0 1 = cc in absurd (omega arith)

off : {A B : Type 0} (b : Bool) (x : A) (o : Option B) → when_so b (Some x) ≡ None → when_so b o ≡ None
off true x o e = never e
off false x o e = refl

-- a round without prices is not struck, and tells nothing of its members
unpriced : (h : Option Held) → then_of h round_prices ≡ None → (a : ℕ) → then_of h (λ h. member_result h a) ≡ None
unpriced None e a = refl
unpriced (Some h) e a = off h.struck _ _ e

priced : (p : Option RoundPrices) (f : RoundPrices → List ℕ) (m : ℕ → Option MemberResult) (g : ℕ → MemberResult → Option (List ℕ)) →
    (p ≡ None → (a : ℕ) → m a ≡ None) →
    if_any (option_map f p) ++ gathered 60 (λ a. if_any (then_of (m a) (g a)))
    ≡ lines_for p (λ p. f p ∷ gathered 60 (λ a. if_any (then_of (m a) (g a))))
priced None f m g h = gathered_none 60 (λ a. if_any (then_of (m a) (g a))) (λ a l. ap (λ o. if_any (then_of o (g a))) (h refl a))
priced (Some p) f m g h = refl

round_whole : (s : State) (k : ℕ) (n : RoundNumber) →
    if_any (round_in s k n) ++ gathered 60 (λ a. if_any (member_in s k n a)) ≡ round_lines s k n
round_whole s k n =
    priced (prices_of_round s k n) (λ p. round_line k n p.price) (λ a. result_of_member s k n a)
    (λ a r. then_of (name_of s a) (λ name. served_line name r)) (unpriced (held_in s k n))

member_slot : (s : State) (k : ℕ) (n : RoundNumber) (a : ℕ) → round_slot s k n (1 + a) ≡ member_in s k n a
member_slot s k n a =
    let other = ne_eqb (1 + a) 0 (λ e. omega arith) in
    let place : 1 + a - 1 ≡ a = omega arith in
    simp (other, place)

-- the 61 slots of a round
round_slots : (s : State) (k : ℕ) (n : RoundNumber) → gathered 61 (λ i. if_any (round_slot s k n i)) ≡ round_lines s k n
unfolding gathered
round_slots s k n =
    gathered-add 1 60 (λ i. if_any (round_slot s k n i))
    ∙ (ap (λ z. if_any (round_in s k n) ++ z) (gathered_same 60 _ (λ a. if_any (member_in s k n a)) (λ a l. ap if_any (member_slot s k n a)))
    ∙ round_whole s k n)

-- ---- the packages

slot_round : (s : State) (k i : ℕ) → k < 8 → i < 122 → slot_line s (k * 122 + i) ≡ round_slot s k (turn_of (i / 61)) (i % 61)
slot_round s k i h l =
    let below = lt-ltb (k * 122 + i) 976 (omega arith) in
    let row = div-mul-add k 122 i l in
    let place = mod-mul-add k 122 i l in
    let column : (k * 122 + i) % 61 ≡ i % 61 = omega arith in
    simp (below, row, place, column)

in_first : (s : State) (k i : ℕ) → i < 61 → round_slot s k (turn_of (i / 61)) (i % 61) ≡ round_slot s k First i
in_first s k i l =
    let row : i / 61 ≡ 0 = omega arith in
    let column : i % 61 ≡ i = omega arith in
    simp (row, column)

in_second : (s : State) (k i : ℕ) → i < 61 → round_slot s k (turn_of ((61 + i) / 61)) ((61 + i) % 61) ≡ round_slot s k Second i
in_second s k i l =
    let row : (61 + i) / 61 ≡ 1 = omega arith in
    let column : (61 + i) % 61 ≡ i = omega arith in
    simp (row, column)

first_turn : (s : State) (k : ℕ) → k < 8 → gathered 61 (λ i. if_any (slot_line s (k * 122 + i))) ≡ round_lines s k First
first_turn s k h =
    gathered_same 61 _ (λ i. if_any (round_slot s k First i)) (λ i l. ap if_any (slot_round s k i h (omega arith) ∙ in_first s k i l))
    ∙ round_slots s k First

second_turn : (s : State) (k : ℕ) → k < 8 → gathered 61 (λ i. if_any (slot_line s (k * 122 + (61 + i)))) ≡ round_lines s k Second
second_turn s k h =
    gathered_same 61 _ (λ i. if_any (round_slot s k Second i)) (λ i l. ap if_any (slot_round s k (61 + i) h (omega arith) ∙ in_second s k i l))
    ∙ round_slots s k Second

package_slots : (s : State) (k : ℕ) → k < 8 → gathered 122 (λ i. if_any (slot_line s (k * 122 + i))) ≡ round_lines s k First ++ round_lines s k Second
package_slots s k h =
    let first = first_turn s k h in
    let second = second_turn s k h in
    gathered-add 61 61 (λ i. if_any (slot_line s (k * 122 + i))) ∙ cc

-- the 976 slots of eight packages
rounds_slots : (s : State) → gathered 976 (λ j. if_any (slot_line s j)) ≡ rounds_lines s
rounds_slots s =
    gathered-mul 8 122 (λ j. if_any (slot_line s j))
    ∙ gathered_same 8 _ (λ k. round_lines s k First ++ round_lines s k Second) (λ k h. package_slots s k h)

-- ---- the settlement

slot_charge : (s : State) (i : ℕ) → i < 64 → slot_line s (976 + i) ≡ then_of (option_map (λ f. f i) s.charges) (charged_line i)
slot_charge s i h =
    let past = le-ltb (976 + i) 976 (omega arith) in
    let short = lt-ltb (976 + i) 1040 (omega arith) in
    let place : 976 + i - 976 ≡ i = omega arith in
    let account = lt-ltb i 64 h in
    simp (past, short, place, account)

settled : (charges : Option (ℕ → ℕ)) (outcome : Option Outcome) →
    gathered 64 (λ i. if_any (then_of (option_map (λ f. f i) charges) (charged_line i)))
    ++ (if_any (then_of charges (λ _. option_map (λ o. unborne_line o.unborne) outcome))
    ++ if_any (then_of charges (λ _. option_map (λ o. surplus_line o.surplus) outcome)))
    ≡ lines_for charges (charges_lines outcome)
settled None outcome = ap (λ z. z ++ ([] ++ [])) (gathered_none 64 (λ i. []) (λ i l. refl))
settled (Some charges) None = refl
settled (Some charges) (Some outcome) = refl

-- the 66 slots of a settlement
settlement_slots : (s : State) → gathered 66 (λ i. if_any (slot_line s (976 + i))) ≡ settlement_lines s
unfolding gathered
settlement_slots s =
    gathered-add 64 2 (λ i. if_any (slot_line s (976 + i)))
    ∙ (ap (λ z. z ++ (if_any (unborne_in s) ++ if_any (surplus_in s))) (gathered_same 64 _ (λ i. if_any (then_of (option_map (λ f. f i) s.charges) (charged_line i))) (λ i l. ap if_any (slot_charge s i l)))
    ∙ settled s.charges s.outcome)

-- ---- all slots

-- one slot more, at the end
slots_more : (s : State) (m j : ℕ) → slots_from s (suc m) j ≡ slots_from s m j ++ if_any (slot_line s (j + m))
unfolding slots_from
slots_more s zero j = append-nil _ ∙ ap (λ i. if_any (slot_line s i)) (sym (add-zero j))
slots_more s (suc m) j =
    let e : j + 1 + m ≡ j + suc m = omega arith in
    ap (λ z. if_any (slot_line s j) ++ z) (slots_more s m (j + 1) ∙ ap (λ i. slots_from s m (j + 1) ++ if_any (slot_line s i)) e)
    ∙ sym (append_assoc (if_any (slot_line s j)) (slots_from s m (j + 1)) (if_any (slot_line s (j + suc m))))

slots_gathered : (s : State) (m : ℕ) → slots_from s m 0 ≡ gathered m (λ j. if_any (slot_line s j))
unfolding slots_from gathered
slots_gathered s zero = refl
slots_gathered s (suc m) =
    slots_more s m 0
    ∙ (ap (λ z. z ++ if_any (slot_line s (0 + m))) (slots_gathered s m)
    ∙ ap (λ i. gathered m (λ j. if_any (slot_line s j)) ++ if_any (slot_line s i)) (zero-add m))

pub slots_are_statement : (s : State) → slots_from s 1042 0 ≡ closing_lines s
slots_are_statement s =
    let rounds = rounds_slots s in
    let settlement = settlement_slots s in
    slots_gathered s 1042 ∙ (gathered-add 976 66 (λ j. if_any (slot_line s j)) ∙ cc)
