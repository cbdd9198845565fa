-- What a residual makes of the rounds of a package.
use Rattle.std.specs.Prelude.{◌≡◌, ℕ, ◌≤◌, Bool, true, not, ◌&&◌, is_some, Some, None, Option, nat_le, IfSome}
use Rattle.rules.specs.Minimums.{all_parts}
use Rattle.rules.specs.Residuals.{cut_allotment, cut_margin, cut_offer, cut_reference, second_minimum}
use Rattle.calls.specs.Packages.{Package}
use Rattle.calls.specs.Held.{Held}

-- what the first round offers
abbrev pub offer_after : (residual : Option ℕ) → ℕ
offer_after None = all_parts
offer_after (Some parts) = cut_offer parts

-- the second round is the one that a residual of some parts opens after the first
pub record Cut (first second : Held) (parts : ℕ) : Type 0 where
  pub least : 1 ≤ parts
  pub most : parts ≤ 999999
  pub struck : first.struck ≡ true
  pub members : second.round.members ≡ first.round.members
  pub minimum : (a : ℕ) → second.round.minimum a ≡ second_minimum first.round.members first.round.minimum (cut_allotment first.round parts) a
  pub reference : second.round.reference ≡ cut_reference parts first.round.reference
  pub margin : second.round.margin ≡ cut_margin parts first.round.margin

-- so it is where there is a residual
abbrev pub CutSo : (residual : Option ℕ) → (first second : Held) → Type 0
CutSo residual first second = IfSome residual (Cut first second)

-- so many parts can be cut off a package
abbrev pub takes_cut : (parts : ℕ) → Package → Bool
takes_cut parts p = (nat_le 1 parts && nat_le parts 999999) && (p.first.struck && not (is_some p.residual))
