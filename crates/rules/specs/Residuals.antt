-- What a residual makes of a package: the first round's offer, credits, second minimums, and the second round.
use Rattle.std.specs.Prelude.{ℕ, ◌+◌, ◌-◌, ◌*◌, ◌/◌, min, List, ℤ, ◌==◌, unsigned_abs}
use Rattle.shares.specs.Sums.{total}
use Rattle.shares.specs.Shares.{share}
use Rattle.rules.specs.declared.bid.Bid.{Bid}
use Rattle.rules.specs.Amounts.{when, signed_as}
use Rattle.rules.specs.Minimums.{all_parts}
use Rattle.rules.specs.Rounds.{Round, allotment}

-- the offer with which the first round is divided anew
abbrev pub cut_offer : (residual : ℕ) → ℕ
cut_offer residual = all_parts - residual

-- the margin of the second round, rounded down
abbrev pub cut_margin : (residual margin : ℕ) → ℕ
cut_margin residual margin = margin * residual / all_parts

-- the reference price of the second round: cut by its size, so toward 0
abbrev pub cut_reference : (residual : ℕ) → (reference : ℤ) → ℤ
cut_reference residual reference = signed_as reference (unsigned_abs reference * residual / all_parts)

-- ---- second minimums, from the first and the allotments, of as many members as `count`

-- what the allotment of member a passes its minimum by, at most the minimum
abbrev pub credit : (minimum allotted : ℕ → ℕ) → ℕ → ℕ
credit minimum allotted a = min (minimum a) (allotted a - minimum a)

-- the minimum of member a if it has no credit: it then rises
abbrev pub rising : (minimum allotted : ℕ → ℕ) → ℕ → ℕ
rising minimum allotted a = when (credit minimum allotted a == 0) (minimum a)

-- what it rises by: a running share of all credits, on the minimums that rise
abbrev pub rise : (count : ℕ) → (minimum allotted : ℕ → ℕ) → ℕ → ℕ
rise count minimum allotted =
    share (total count (credit minimum allotted)) (total count (rising minimum allotted)) (rising minimum allotted)

-- a credit is taken off, a rise is added, and the result is cut at the whole
unfoldable pub second_minimum : (count : ℕ) → (minimum allotted : ℕ → ℕ) → ℕ → ℕ
second_minimum count minimum allotted a =
    min all_parts (minimum a - credit minimum allotted a + rise count minimum allotted a)

-- ---- what a first round hands to the second

-- all credits of a round in which this offer was divided
abbrev pub credits : Round → (offer : ℕ) → ℕ
credits r offer = total r.members (credit r.minimum (allotment r offer))

-- the minimums that rise, together: the base of the rises
abbrev pub rise_base : Round → (offer : ℕ) → ℕ
rise_base r offer = total r.members (rising r.minimum (allotment r offer))

-- the allotments of a first round as a residual divides it anew
abbrev pub cut_allotment : Round → (residual : ℕ) → ℕ → ℕ
cut_allotment r residual = allotment r (cut_offer residual)

-- the second round that a residual opens after the round r, with its own bids
abbrev pub second_round : (r : Round) → (residual : ℕ) → List Bid → Round
second_round r residual bids =
    record {
      members = r.members;
      minimum = second_minimum r.members r.minimum (cut_allotment r residual);
      bids = bids;
      reference = cut_reference residual r.reference;
      margin = cut_margin residual r.margin;
    }
