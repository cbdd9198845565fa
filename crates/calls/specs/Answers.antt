-- What is answered of packages and rounds.
use Rattle.std.specs.Prelude.{ℕ, Bool, cond, length, Some, None, Option, nat_lt}
use Rattle.std.specs.Option.{option_map}
use Rattle.rules.specs.declared.bid.Bid.{Bid}
use Rattle.rules.specs.Rounds.{bid_at, mark, is_market, shortfall, givings, shortfall_parts, allotment, round_price, transfer}
use Rattle.rules.specs.Fractions.{round_fraction}
use Rattle.calls.specs.declared.answers.PackageTerms.{PackageTerms}
use Rattle.calls.specs.declared.answers.RoundTerms.{RoundTerms}
use Rattle.calls.specs.declared.answers.RoundPrices.{RoundPrices}
use Rattle.calls.specs.declared.answers.BidResult.{BidResult}
use Rattle.calls.specs.declared.answers.MemberResult.{MemberResult}
use Rattle.calls.specs.Packages.{Package}
use Rattle.calls.specs.Held.{Held}

-- ---- absence

-- an answer where the test is passed, else absence
abbrev pub when_so : {A : Type 0} → Bool → Option A → Option A
when_so test answer = cond test answer None

-- what is answered of what is there, else absence
abbrev pub then_of : {A B : Type 0} → Option A → (A → Option B) → Option B
then_of None f = None
then_of (Some x) f = f x

-- ---- of a package

abbrev pub package_terms : Package → PackageTerms
package_terms p =
    record { margin = p.margin; reference = p.reference; excused = p.excused; residual = option_map (λ r. r.parts) p.residual }

-- ---- of a round, open or struck

abbrev pub round_terms : Held → RoundTerms
round_terms h = record { struck = h.struck; offer = h.offer; margin = h.round.margin; reference = h.round.reference }

-- how many bids it has
abbrev pub bid_count : Held → ℕ
bid_count h = length h.round.bids

-- the bid at a place, in rank order from 0
abbrev pub bid_of : Held → (i : ℕ) → Option Bid
bid_of h i = when_so (nat_lt i (bid_count h)) (Some (bid_at h.round.bids i))

abbrev pub minimum_of : Held → (a : ℕ) → Option ℕ
minimum_of h a = when_so (nat_lt a h.round.members) (Some (h.round.minimum a))

-- ---- of a struck round

abbrev pub round_prices : Held → Option RoundPrices
round_prices h = when_so h.struck (Some (record {
  mark = mark h.round.bids h.round.reference;
  price = round_price h.round h.offer;
}))

abbrev pub bid_result : Held → (i : ℕ) → Option BidResult
bid_result h i = when_so h.struck (when_so (nat_lt i (bid_count h)) (Some (record {
  is_market = is_market (mark h.round.bids h.round.reference) h.round.margin (bid_at h.round.bids i).price;
  giving = givings h.round h.offer i;
})))

abbrev pub member_result : Held → (a : ℕ) → Option MemberResult
member_result h a = when_so h.struck (when_so (nat_lt a h.round.members) (Some (record {
  shortfall = shortfall h.round a;
  parts = allotment h.round h.offer a;
  shortfall_parts = shortfall_parts h.round h.offer a;
  transfer = transfer h.round h.offer a;
  fraction = round_fraction h.round a;
})))
