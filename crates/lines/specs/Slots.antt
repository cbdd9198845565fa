-- What the statement says of a record, slot by slot: each of 1042 slots gives a line or none.
use Rattle.std.specs.Prelude.{ℕ, zero, suc, ◌+◌, ◌-◌, ◌/◌, ◌%◌, cond, List, [], ◌++◌, Option, ◌==◌, nat_lt}
use Rattle.std.specs.Option.{option_map}
use Rattle.calls.specs.declared.round_number.RoundNumber.{RoundNumber}
use Rattle.calls.specs.declared.round_number.RoundNumber.TheVariants.{First, Second}
use Rattle.calls.specs.State.{State}
use Rattle.calls.specs.Answers.{then_of}
use Rattle.calls.specs.Questions.{prices_of_round, charge_of}
use Rattle.lines.specs.Lines.{round_line, unborne_line, surplus_line}
use Rattle.lines.specs.Statement.{if_any, member_in, charged_line}

-- ---- the line of a slot

abbrev pub round_in : State → (k : ℕ) → RoundNumber → Option (List ℕ)
round_in s k n = option_map (λ p. round_line k n p.price) (prices_of_round s k n)

abbrev pub charge_in : State → (account : ℕ) → Option (List ℕ)
charge_in s account = then_of (charge_of s account) (charged_line account)

abbrev pub unborne_in : State → Option (List ℕ)
unborne_in s = then_of s.charges (λ _. option_map (λ o. unborne_line o.unborne) s.outcome)

abbrev pub surplus_in : State → Option (List ℕ)
surplus_in s = then_of s.charges (λ _. option_map (λ o. surplus_line o.surplus) s.outcome)

-- ---- where it stands

-- a package has twice 61 slots
abbrev pub turn_of : (i : ℕ) → RoundNumber
turn_of i = cond (i == 0) First Second

-- a round has 61: its own, and those of its members
abbrev pub round_slot : State → (k : ℕ) → RoundNumber → (i : ℕ) → Option (List ℕ)
round_slot s k n i = cond (i == 0) (round_in s k n) (member_in s k n (i - 1))

-- eight packages have 976; 64 accounts and two more stand behind them
abbrev pub slot_line : State → (j : ℕ) → Option (List ℕ)
slot_line s j =
    cond (nat_lt j 976) (round_slot s (j / 122) (turn_of (j % 122 / 61)) (j % 61))
    (cond (nat_lt j 1040) (charge_in s (j - 976))
    (cond (j == 1040) (unborne_in s) (surplus_in s)))

-- the lines of m slots from slot j on
unfoldable pub slots_from : State → (m j : ℕ) → List (List ℕ)
slots_from s zero j = []
slots_from s (suc m) j = if_any (slot_line s j) ++ slots_from s m (j + 1)
