-- The rounds of a package are those of the state that it is a part of, if its first round is.
use Rattle.std.proofs.Common.{◌≡◌, ℕ, ℤ, ◌+ℤ◌, is_some, Some, None, Option, refl, ap, ◌∙◌}
use Rattle.std.specs.Option.{option_map}
use Rattle.rules.specs.Residuals.{second_round}
use Rattle.rules.specs.Rounds.{Round}
use Rattle.calls.specs.declared.round_number.RoundNumber.{RoundNumber}
use Rattle.calls.specs.declared.round_number.RoundNumber.TheVariants.{First, Second}
use Rattle.calls.specs.Packages.{Residual}
use Rattle.calls.specs.State.{State}
use Rattle.calls.specs.Held.{Held, brought_by, brought_later, brought_of, first_held, first_in, held_of, offer_left, rounds_of, rounds_with as stated_rounds, second_held}
use Rattle.book.specs.declared.packages.Package.{Package}
use Rattle.book.specs.Brought.{of_held, over_rounds, rounds_held, rounds_with}
use Rattle.book.specs.Cuts.{Cut, CutSo, offer_after}
use Rattle.book.specs.HeldPackages.{first_round_of, held_by, package_of}
use Rattle.book.specs.HeldRounds.{bidding_of, round_held}
use Rattle.book.proofs.Cutting.{after}

-- ---- what is held

offer_is : (residual : Option ℕ) (second : Held) → offer_after residual ≡ offer_left (option_map (λ n. record { parts = n; second = bidding_of second }) residual)
offer_is None second = refl
offer_is (Some parts) second = refl

module _ (s : State) (p : Package) (is : first_round_of p ≡ first_in s (package_of p)) where
  first_is : round_held p.first ≡ first_held s (package_of p)
  first_is =
      let offer = p.offered ∙ offer_is p.residual (round_held p.second) in
      λ i. record { round = is i; offer = offer i; struck = is_some p.first.division }

  second_is : (parts : ℕ) → Cut (round_held p.first) (round_held p.second) parts →
      round_held p.second ≡ second_held s (package_of p) (record { parts = parts; second = bidding_of (round_held p.second) })
  second_is parts h =
      let round = after (round_held p.first) (round_held p.second) parts h ∙ ap (λ (r : Round). second_round r parts (round_held p.second).round.bids) is in
      let whole = p.whole in
      λ i. record { round = round i; offer = whole i; struck = is_some p.second.division }

  seconds_is : (residual : Option ℕ) → CutSo residual (round_held p.first) (round_held p.second) →
      option_map (λ _. round_held p.second) residual
      ≡ option_map (second_held s (package_of p)) (option_map (λ n. record { parts = n; second = bidding_of (round_held p.second) }) residual)
  seconds_is None h = refl
  seconds_is (Some parts) h = ap (λ (x : Held). Some x) (second_is parts h)

  pub held_is : (n : RoundNumber) → held_by p n ≡ held_of s (package_of p) n
  held_is First = ap (λ (x : Held). Some x) first_is
  held_is Second = seconds_is p.residual p.cut

  -- ---- what it comes to

  later_is : (residual : Option Residual) → of_held brought_by (option_map (second_held s (package_of p)) residual) ≡ brought_later s (package_of p) residual
  later_is None = refl
  later_is (Some r) = refl

  pub brought_is : over_rounds brought_by p ≡ brought_of s (package_of p)
  brought_is =
      ap (λ (x : Option Held). of_held brought_by x +ℤ of_held brought_by (held_by p Second)) (held_is First)
      ∙ ap (λ (x : Option Held). brought_by (first_held s (package_of p)) +ℤ of_held brought_by x) (held_is Second)
      ∙ ap (λ (z : ℤ). brought_by (first_held s (package_of p)) +ℤ z) (later_is (package_of p).residual)

  rounds_by : (residual : Option ℕ) → CutSo residual (round_held p.first) (round_held p.second) →
      rounds_with (first_round_of p) residual (round_held p.second).round
      ≡ stated_rounds s (package_of p) (option_map (λ n. record { parts = n; second = bidding_of (round_held p.second) }) residual)
  rounds_by None h = ap (λ (r : Round). rounds_with r None (round_held p.second).round) is
  rounds_by (Some parts) h =
      ap (λ (r : Round). rounds_with r (Some parts) (round_held p.second).round) is
      ∙ ap (λ (x : Held). rounds_with (first_in s (package_of p)) (Some parts) x.round) (second_is parts h)

  pub rounds_are : rounds_held p ≡ rounds_of s (package_of p)
  rounds_are = rounds_by p.residual p.cut
