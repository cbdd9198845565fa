-- The rounds of a package are sound.
use Rattle.std.proofs.Common.{◌≡◌, ℕ, ◌<◌, ◌≤◌, false, List, length, ℤ, ◌≤ℤ◌, inl, inr, arith}
use lib.Signed.{≤ℤ_refl}
use Rattle.std.proofs.lemmas.Bool.{cases_lt}
use Rattle.ranked.specs.Order.{InOrder}
use Rattle.rules.specs.declared.bid.Bid.{Bid}
use Rattle.rules.specs.declared.member.Member.{Member}
use Rattle.rules.specs.Bids.{by_price}
use Rattle.rules.specs.Minimums.{contributed, is_excused}
use Rattle.rules.specs.Rounds.{Sound, first_round, no_bid, bid_at, OfMembers}
use Rattle.rules.specs.RoundLaws.{FirstSound, SecondSound}
use Rattle.rules.proofs.Prices.{not_higher}
use Rattle.rules.proofs.Covering.{minimums_cover, some_serves}
use Rattle.rules.proofs.Credits.{second_minimums_cover}

-- in an ordered table of bids no price stands above one in front of it
pub prices_fall : (bids : List Bid) → InOrder by_price bids → (i j : ℕ) → i ≤ j → j < length bids → (bid_at bids j).price ≤ℤ (bid_at bids i).price
prices_fall bids order i j h l =
    elim (cases_lt i j) [
      | inl k ↦ not_higher (bid_at bids j).price (bid_at bids i).price (order i j no_bid (k, l))
      | inr k ↦ (let e : i ≡ j = omega arith in rw e (≤ℤ_refl (bid_at bids j).price))
    ]

-- a first round with a member that serves is sound
pub first_sound_at : (members : List Member) (multiplier excused margin : ℕ) (reference : ℤ) (bids : List Bid) →
    (a : ℕ) → a < length members → is_excused excused a ≡ false → 1 ≤ contributed members a → 1000 ≤ multiplier →
    InOrder by_price bids → OfMembers (length members) bids → Sound (first_round members multiplier excused margin reference bids)
first_sound_at members multiplier excused margin reference bids a l serves some h order known =
    record {
      ranked = prices_fall bids order;
      known = known;
      covered = minimums_cover members multiplier excused h a l serves some;
    }

pub first_sound : FirstSound
first_sound members multiplier excused margin reference bids contribute serve h order known =
    let server = some_serves excused (length members) serve in
    first_sound_at members multiplier excused margin reference bids server.0 server.1 server.2 (contribute server.0 server.1) h order known

pub second_sound : SecondSound
second_sound r sound residual bids order known =
    record {
      ranked = prices_fall bids order;
      known = known;
      covered = second_minimums_cover r sound residual;
    }
