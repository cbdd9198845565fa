-- What a package stands for.
use Rattle.std.specs.Prelude.{ℕ, Some, Option}
use Rattle.std.specs.Option.{option_map}
use Rattle.rules.specs.Rounds.{Round}
use Rattle.calls.specs.declared.round_number.RoundNumber.{RoundNumber}
use Rattle.calls.specs.declared.round_number.RoundNumber.TheVariants.{First, Second}
use Rattle.calls.specs.Packages.{Package as Model}
use Rattle.calls.specs.Held.{Held}
use Rattle.book.specs.declared.packages.Package.{Package}
use Rattle.book.specs.HeldRounds.{bidding_of, round_held}
use Rattle.book.specs.Terms.{Terms, terms_in}

-- by its two rounds; the second is there where there is a residual
abbrev pub package_with : (excused : ℕ) → (first : Held) → (residual : Option ℕ) → (second : Held) → Model
package_with excused first residual second = record {
  margin = first.round.margin;
  reference = first.round.reference;
  excused = excused;
  first = bidding_of first;
  residual = option_map (λ n. record { parts = n; second = bidding_of second }) residual;
}

abbrev pub package_of : Package → Model
package_of p = package_with p.excused (round_held p.first) p.residual (round_held p.second)

-- a round of it, as the rules divide it
abbrev pub held_by : Package → RoundNumber → Option Held
held_by p First = Some (round_held p.first)
held_by p Second = option_map (λ _. round_held p.second) p.residual

abbrev pub first_round_of : Package → Round
first_round_of p = (round_held p.first).round

-- the terms of its first round
abbrev pub terms_of : Package → Terms
terms_of p = terms_in (first_round_of p)
