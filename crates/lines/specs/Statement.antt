-- What the statement says of a record: its struck rounds, and its settlement.
use Rattle.std.specs.Prelude.{ℕ, zero, suc, List, [], ◌∷◌, ◌++◌, Some, None, Option, nat_lt}
use Rattle.rules.specs.declared.name.Name.{Name}
use Rattle.calls.specs.declared.outcome.Outcome.{Outcome}
use Rattle.calls.specs.declared.answers.MemberResult.{MemberResult}
use Rattle.calls.specs.declared.answers.RoundPrices.{RoundPrices}
use Rattle.calls.specs.declared.round_number.RoundNumber.{RoundNumber}
use Rattle.calls.specs.declared.round_number.RoundNumber.TheVariants.{First, Second}
use Rattle.calls.specs.State.{State}
use Rattle.calls.specs.Answers.{when_so, then_of}
use Rattle.calls.specs.Questions.{name_of, prices_of_round, result_of_member}
use Rattle.lines.specs.Lines.{round_line, member_line, charge_line, unborne_line, surplus_line}

-- f 0, f 1 and so on to f (n - 1), one behind the other
unfoldable pub gathered : (n : ℕ) → (f : ℕ → List (List ℕ)) → List (List ℕ)
gathered zero f = []
gathered (suc n) f = gathered n f ++ f n

-- a line that is there, or no line
abbrev pub if_any : Option (List ℕ) → List (List ℕ)
if_any None = []
if_any (Some line) = line ∷ []

-- the lines of what is there, or no line
abbrev pub lines_for : {A : Type 0} → Option A → (A → List (List ℕ)) → List (List ℕ)
lines_for None f = []
lines_for (Some x) f = f x

-- ---- rounds

-- a member has a line where it has parts
abbrev pub served_line : Name → MemberResult → Option (List ℕ)
served_line name r = when_so (nat_lt 0 r.parts) (Some (member_line name.bytes r.parts r.transfer))

-- member a in a round of package k
abbrev pub member_in : State → (k : ℕ) → RoundNumber → (a : ℕ) → Option (List ℕ)
member_in s k n a = then_of (result_of_member s k n a) (λ r. then_of (name_of s a) (λ name. served_line name r))

-- the round itself, and then its members in order
abbrev pub struck_lines : State → (k : ℕ) → RoundNumber → RoundPrices → List (List ℕ)
struck_lines s k n p = round_line k n p.price ∷ gathered 60 (λ a. if_any (member_in s k n a))

-- a round that is not there, or not struck, has no prices and no line
abbrev pub round_lines : State → (k : ℕ) → RoundNumber → List (List ℕ)
round_lines s k n = lines_for (prices_of_round s k n) (struck_lines s k n)

-- by package, and then by round
abbrev pub rounds_lines : State → List (List ℕ)
rounds_lines s = gathered 8 (λ k. round_lines s k First ++ round_lines s k Second)

-- ---- settlement

-- an account has a line where it was charged something
abbrev pub charged_line : (account charge : ℕ) → Option (List ℕ)
charged_line account charge = when_so (nat_lt 0 charge) (Some (charge_line account charge))

-- what nobody bore, and what was over
abbrev pub outcome_lines : Outcome → List (List ℕ)
outcome_lines o = unborne_line o.unborne ∷ surplus_line o.surplus ∷ []

-- the charges by account, and what the settlement answered
abbrev pub charges_lines : Option Outcome → (charges : ℕ → ℕ) → List (List ℕ)
charges_lines outcome charges =
    gathered 64 (λ account. if_any (charged_line account (charges account))) ++ lines_for outcome outcome_lines

-- only a settlement over our own pile keeps charges, and has lines
abbrev pub settlement_lines : State → List (List ℕ)
settlement_lines s = lines_for s.charges (charges_lines s.outcome)

-- all that the statement says of a record
abbrev pub closing_lines : State → List (List ℕ)
closing_lines s = rounds_lines s ++ settlement_lines s
