-- The lines of a statement, as bytes. One space stands between words, and byte 10 ends a line.
use Rattle.std.specs.Prelude.{ℕ, List, ◌++◌, ℤ, codes, decimal}
use Rattle.std.specs.Fmt.{signed_decimal}
use Rattle.rules.specs.declared.refusal.Refusal.{Refusal}
use Rattle.rules.specs.declared.refusal.Fault.{Fault}
use Rattle.rules.specs.Refusals.{number}
use Rattle.rules.specs.Refusals.Cause.{refused, stopped}
use Rattle.calls.specs.declared.round_number.RoundNumber.{RoundNumber}
use Rattle.calls.specs.declared.round_number.RoundNumber.TheVariants.{First, Second}

-- a word behind a space
abbrev pub spaced : List ℕ → List ℕ
spaced word = codes " " ++ word

-- a word and a number
abbrev pub sole_line : (word : List ℕ) → (amount : ℕ) → List ℕ
sole_line word amount = word ++ (spaced (decimal amount) ++ codes "\n")

-- a word and two numbers
abbrev pub pair_line : (word : List ℕ) → (first second : ℕ) → List ℕ
pair_line word first second = word ++ (spaced (decimal first) ++ (spaced (decimal second) ++ codes "\n"))

-- ---- what became of the calls

-- a refused call, by its count from 0 and its cause
abbrev pub refused_line : (count : ℕ) → Refusal → List ℕ
refused_line count refusal = pair_line (codes "REFUSED") count (number (refused refusal))

-- where the reading stopped, and why
abbrev pub stopped_line : Fault → List ℕ
stopped_line fault = pair_line (codes "STOPPED") fault.place (number (stopped fault))

-- ---- rounds

abbrev pub round_digit : RoundNumber → ℕ
round_digit First = 1
round_digit Second = 2

-- a round of the package with number k, and its price
abbrev pub round_line : (k : ℕ) → RoundNumber → (price : ℤ) → List ℕ
round_line k n price =
    codes "ROUND" ++ (spaced (decimal k) ++ (spaced (decimal (round_digit n)) ++ (spaced (signed_decimal price) ++ codes "\n")))

-- a member of a round, by the bytes of its name
abbrev pub member_line : (name : List ℕ) → (parts : ℕ) → (transfer : ℤ) → List ℕ
member_line name parts transfer = name ++ (spaced (decimal parts) ++ (spaced (signed_decimal transfer) ++ codes "\n"))

-- ---- settlement

abbrev pub charge_line : (account charge : ℕ) → List ℕ
charge_line account charge = pair_line (codes "CHARGE") account charge

abbrev pub unborne_line : (amount : ℕ) → List ℕ
unborne_line amount = sole_line (codes "UNBORNE") amount

abbrev pub surplus_line : (amount : ℕ) → List ℕ
surplus_line amount = sole_line (codes "SURPLUS") amount
