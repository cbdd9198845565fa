-- The worked figures: what the rules give for rounds that were worked out by hand.
use Rattle.std.specs.Prelude.{◌≡◌, ℕ, List, [], ◌∷◌, ℤ, pos, neg_ℤ}
use Rattle.rules.specs.declared.bid.Bid.{Bid}
use Rattle.rules.specs.declared.member.Member.{Member}
use Rattle.rules.specs.Members.{nobody}
use Rattle.rules.specs.Minimums.{all_parts, contributed, first_minimum}
use Rattle.rules.specs.Books.{Book, giving}
use Rattle.rules.specs.Rounds.{Round, first_round, mark, market, shortfall, allotment, round_price, transfer}
use Rattle.rules.specs.Residuals.{cut_allotment, cut_offer, second_round}
use Rattle.rules.specs.Fractions.{round_fraction, package_fraction, total_fraction, junior_part, senior_part}
use Rattle.rules.specs.Fractions.PackageRounds.{first_only, with_residual}

-- ---- how the figures are written

-- members with these contributions
abbrev pub roll_of : List ℕ → List Member
roll_of [] = []
roll_of (c ∷ cs) = record { name = nobody.name; contribution = c } ∷ roll_of cs

-- a number below 0
abbrev pub minus : ℕ → ℤ
minus n = neg_ℤ (pos n)

-- the bid of a member for some parts at a price
abbrev pub bid_by : (member size : ℕ) → (price : ℤ) → Bid
bid_by member size price = record { member = member; size = size; price = price }

-- what stands at 0, 1 and 2 of a row
abbrev pub Three : {A : Type 0} → (ℕ → A) → A → A → A → Type 0
Three f x y z = (f 0 ≡ x) × (f 1 ≡ y) × (f 2 ≡ z)

-- ---- the rounds

-- the members of the worked default
abbrev pub worked_roll : List Member
worked_roll = roll_of (600 ∷ 300 ∷ 100 ∷ [])

-- a first round with the multiplier 1,250, nobody excused, the margin 1,000 and the reference price -5,000
abbrev pub worked_round : List Bid → Round
worked_round = first_round worked_roll 1250 0 1000 (minus 5000)

-- the worked default
abbrev pub worked : Round
worked = worked_round (bid_by 0 750000 (minus 4000) ∷ bid_by 1 375000 (minus 4500) ∷ [])

-- a member's total fraction with that one package
abbrev pub worked_total : ℕ → ℕ
worked_total a = total_fraction 1 (λ k. 1000) (λ k. package_fraction (first_only worked) a)

-- one bid alone, as far below the reference price as the margin
abbrev pub round_at_margin : Round
round_at_margin = worked_round (bid_by 0 750000 (minus 6000) ∷ [])

-- one euro further below
abbrev pub round_past_margin : Round
round_past_margin = worked_round (bid_by 0 750000 (minus 6001) ∷ [])

-- the worked default with a third bid, before a residual of 400,000
abbrev pub before_residual : Round
before_residual = worked_round (bid_by 2 300000 (minus 3000) ∷ bid_by 0 750000 (minus 4000) ∷ bid_by 1 375000 (minus 4500) ∷ [])

-- the second round, without bids
abbrev pub after_residual : Round
after_residual = second_round before_residual 400000 []

-- contributions 900 and 100, with bids of both, before a residual of 500,000
abbrev pub uneven_round : Round
uneven_round =
    first_round (roll_of (900 ∷ 100 ∷ [])) 1250 0 1000 (minus 5000) (bid_by 1 500000 (minus 3000) ∷ bid_by 0 1000000 (minus 3500) ∷ [])

-- three bids of 300,000 at one price
abbrev pub three_alike : Book
three_alike = record { count = 3; price = λ i. pos 0; size = λ i. 300000 }

-- ---- the figures

-- all of them together
pub record WorkedFigures : Type 0 where
  -- minimums at a multiplier of 1,250, with nobody excused, and with member 2
  pub minimums : Three (first_minimum worked_roll 1250 0) 750000 375000 125000
  pub minimums_excused : Three (first_minimum worked_roll 1250 4) 833334 416667 0
  pub minimums_equal : Three (first_minimum (roll_of (1 ∷ 1 ∷ 1 ∷ [])) 1250 0) 416667 416667 416667
  pub minimums_cut : (first_minimum (roll_of (900 ∷ 100 ∷ [])) 1250 0 0 ≡ 1000000) × (first_minimum (roll_of (900 ∷ 100 ∷ [])) 1250 0 1 ≡ 125000)
  -- the worked default, struck
  pub worked_mark : mark worked.bids worked.reference ≡ minus 4500
  pub worked_shortfalls : Three (shortfall worked) 0 0 125000
  pub worked_allotments : Three (allotment worked all_parts) 750000 125000 125000
  pub worked_price : round_price worked all_parts ≡ minus 4500
  pub worked_transfers : Three (transfer worked all_parts) (minus 3375) (minus 562) (minus 563)
  pub worked_fractions : Three (round_fraction worked) 0 0 1000000
  pub worked_juniors : Three (λ a. junior_part (contributed worked_roll a) (worked_total a)) 0 0 100
  pub worked_seniors : Three (λ a. senior_part (contributed worked_roll a) (worked_total a)) 600 300 0
  -- at the margin a bid is a market bid, and past it not
  pub at_margin : (market round_at_margin).size 0 ≡ 750000
  pub at_margin_allotments : Three (allotment round_at_margin all_parts) 500000 375000 125000
  pub at_margin_price : round_price round_at_margin all_parts ≡ minus 6000
  pub past_margin : (market round_past_margin).size 0 ≡ 0
  pub past_margin_allotments : Three (allotment round_past_margin all_parts) 600000 300000 100000
  pub past_margin_price : round_price round_past_margin all_parts ≡ minus 5000
  -- the first round as the residual divides it anew, and the second
  pub cut_allotments : Three (cut_allotment before_residual 400000) 300000 0 300000
  pub cut_price : round_price before_residual (cut_offer 400000) ≡ minus 4000
  pub second_minimums : Three after_residual.minimum 833333 416667 0
  pub second_margin : after_residual.margin ≡ 400
  pub second_reference : after_residual.reference ≡ minus 2000
  pub second_allotments : Three (allotment after_residual all_parts) 666666 333334 0
  pub second_price : round_price after_residual all_parts ≡ minus 2000
  pub package_fractions : Three (package_fraction (with_residual before_residual 400000 after_residual)) 400000 400000 0
  -- a second minimum is cut at the whole
  pub second_minimums_cut : ((second_round uneven_round 500000 []).minimum 0 ≡ 1000000) × ((second_round uneven_round 500000 []).minimum 1 ≡ 0)
  -- the rounding is carried along, and not left to the last
  pub carried_along : Three (giving three_alike 500000) 166666 166667 166667
