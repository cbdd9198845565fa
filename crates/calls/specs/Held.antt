-- The rounds that a record holds, as the rules divide them, and what they come to.
use Rattle.std.specs.Prelude.{ℕ, Bool, false, cond, not, ◌||◌, List, [], ◌∷◌, length, ℤ, pos, ◌+ℤ◌, Some, None, Option, nat_lt}
use Rattle.std.specs.Option.{option_map}
use Rattle.rules.specs.Amounts.{total_z}
use Rattle.rules.specs.Minimums.{all_parts, contributed}
use Rattle.rules.specs.Rounds.{Round, first_round, transfer}
use Rattle.rules.specs.Residuals.{cut_offer, second_round}
use Rattle.rules.specs.Fractions.{PackageRounds, package_fraction, total_fraction, junior_part, senior_part}
use Rattle.rules.specs.Fractions.PackageRounds.{first_only, with_residual}
use Rattle.calls.specs.declared.round_number.RoundNumber.{RoundNumber}
use Rattle.calls.specs.declared.round_number.RoundNumber.TheVariants.{First, Second}
use Rattle.calls.specs.Packages.{Residual, Package}
use Rattle.calls.specs.State.{State, package_at}

-- a round as the rules see it, the parts that it offers as last divided, and whether it is struck
pub record Held : Type 0 where
  pub round : Round
  pub offer : ℕ
  pub struck : Bool

-- ---- the rounds of a package

-- the first round
abbrev pub first_in : State → Package → Round
first_in s p = first_round s.members s.multiplier p.excused p.margin p.reference p.first.bids

-- the second, which a residual opened
abbrev pub second_in : State → Package → Residual → Round
second_in s p r = second_round (first_in s p) r.parts r.second.bids

-- the first round offers the whole, or what a residual leaves of it
abbrev pub offer_left : Option Residual → ℕ
offer_left None = all_parts
offer_left (Some r) = cut_offer r.parts

abbrev pub first_held : State → Package → Held
first_held s p = record { round = first_in s p; offer = offer_left p.residual; struck = p.first.struck }

abbrev pub second_held : State → Package → Residual → Held
second_held s p r = record { round = second_in s p r; offer = all_parts; struck = r.second.struck }

abbrev pub held_of : State → Package → RoundNumber → Option Held
held_of s p First = Some (first_held s p)
held_of s p Second = option_map (second_held s p) p.residual

-- a round of the package with a number: none where the package is not there, or has not opened it
abbrev pub held_in : State → (k : ℕ) → RoundNumber → Option Held
held_in s k n = cond (nat_lt k (length s.packages)) (held_of s (package_at s k) n) None

-- ---- open rounds

abbrev pub is_open_later : Option Residual → Bool
is_open_later None = false
is_open_later (Some r) = not r.second.struck

-- a round of the package is open
abbrev pub is_open : Package → Bool
is_open p = not p.first.struck || is_open_later p.residual

-- a round of some package is open
abbrev pub any_open : List Package → Bool
any_open [] = false
any_open (p ∷ ps) = is_open p || any_open ps

-- ---- transfers

-- all transfers of a round as last divided
abbrev pub brought_by : Held → ℤ
brought_by h = total_z h.round.members (transfer h.round h.offer)

abbrev pub brought_later : State → Package → Option Residual → ℤ
brought_later s p None = pos 0
brought_later s p (Some r) = brought_by (second_held s p r)

-- all transfers of a package's rounds
abbrev pub brought_of : State → Package → ℤ
brought_of s p = brought_by (first_held s p) +ℤ brought_later s p p.residual

abbrev pub brought_all : State → List Package → ℤ
brought_all s [] = pos 0
brought_all s (p ∷ ps) = brought_of s p +ℤ brought_all s ps

-- all transfers of all rounds
unfoldable pub brought : State → ℤ
brought s = brought_all s s.packages

-- ---- fractions

abbrev pub rounds_with : State → Package → Option Residual → PackageRounds
rounds_with s p None = first_only (first_in s p)
rounds_with s p (Some r) = with_residual (first_in s p) r.parts (second_in s p r)

-- the rounds of a package, as fractions see them
abbrev pub rounds_of : State → Package → PackageRounds
rounds_of s p = rounds_with s p p.residual

-- the fraction of member a in the package with a number
abbrev pub fraction_in : State → (k a : ℕ) → ℕ
fraction_in s k a = package_fraction (rounds_of s (package_at s k)) a

-- its fraction over all packages
unfoldable pub fraction_over : State → (a : ℕ) → ℕ
fraction_over s a = total_fraction (length s.packages) (λ k. (package_at s k).margin) (λ k. fraction_in s k a)

abbrev pub junior_of : State → (a : ℕ) → ℕ
junior_of s a = junior_part (contributed s.members a) (fraction_over s a)

abbrev pub senior_of : State → (a : ℕ) → ℕ
senior_of s a = senior_part (contributed s.members a) (fraction_over s a)
