-- What a record answers, and where the answer is absence.
use Rattle.std.specs.Prelude.{ℕ, cond, not, ◌||◌, length, Some, None, Option, ◌==◌, nat_lt}
use Rattle.std.specs.Option.{option_map}
use Rattle.rules.specs.declared.bid.Bid.{Bid}
use Rattle.rules.specs.declared.member.Member.{Member}
use Rattle.rules.specs.declared.name.Name.{Name}
use Rattle.rules.specs.Members.{place_of, member_at}
use Rattle.calls.specs.declared.answers.PackageTerms.{PackageTerms}
use Rattle.calls.specs.declared.answers.RoundTerms.{RoundTerms}
use Rattle.calls.specs.declared.answers.RoundPrices.{RoundPrices}
use Rattle.calls.specs.declared.answers.BidResult.{BidResult}
use Rattle.calls.specs.declared.answers.MemberResult.{MemberResult}
use Rattle.calls.specs.declared.answers.MemberTotal.{MemberTotal}
use Rattle.calls.specs.declared.round_number.RoundNumber.{RoundNumber}
use Rattle.calls.specs.State.{State, package_at, is_roll}
use Rattle.calls.specs.Held.{held_in, is_open, any_open, fraction_in, fraction_over, junior_of, senior_of}
use Rattle.calls.specs.Answers.{when_so, then_of, package_terms, round_terms, bid_count, bid_of, minimum_of, round_prices, bid_result, member_result}

-- ---- members

-- members have numbers once the roll is closed: their places in it
abbrev pub member_with : State → ℕ → Option Member
member_with s number = cond (is_roll s.stage) None (member_at s.members number)

abbrev pub name_of : State → ℕ → Option Name
name_of s number = option_map (λ m. m.name) (member_with s number)

abbrev pub contribution_of : State → ℕ → Option ℕ
contribution_of s number = option_map (λ m. m.contribution) (member_with s number)

abbrev pub number_of : State → Name → Option ℕ
number_of s name = cond (is_roll s.stage) None (place_of name s.members)

-- ---- packages and rounds

abbrev pub terms_of_package : State → (k : ℕ) → Option PackageTerms
terms_of_package s k = when_so (nat_lt k (length s.packages)) (Some (package_terms (package_at s k)))

abbrev pub terms_of_round : State → (k : ℕ) → RoundNumber → Option RoundTerms
terms_of_round s k n = option_map round_terms (held_in s k n)

abbrev pub bids_of_round : State → (k : ℕ) → RoundNumber → Option ℕ
bids_of_round s k n = option_map bid_count (held_in s k n)

abbrev pub bid_at_place : State → (k : ℕ) → RoundNumber → (i : ℕ) → Option Bid
bid_at_place s k n i = then_of (held_in s k n) (λ h. bid_of h i)

abbrev pub minimum_in : State → (k : ℕ) → RoundNumber → (a : ℕ) → Option ℕ
minimum_in s k n a = then_of (held_in s k n) (λ h. minimum_of h a)

abbrev pub prices_of_round : State → (k : ℕ) → RoundNumber → Option RoundPrices
prices_of_round s k n = then_of (held_in s k n) round_prices

abbrev pub result_of_bid : State → (k : ℕ) → RoundNumber → (i : ℕ) → Option BidResult
result_of_bid s k n i = then_of (held_in s k n) (λ h. bid_result h i)

abbrev pub result_of_member : State → (k : ℕ) → RoundNumber → (a : ℕ) → Option MemberResult
result_of_member s k n a = then_of (held_in s k n) (λ h. member_result h a)

-- ---- fractions

-- the fraction of a member in a package whose rounds are all struck
abbrev pub fraction_of_package : State → (k a : ℕ) → Option ℕ
fraction_of_package s k a =
    when_so (nat_lt k (length s.packages)) (when_so (not (is_open (package_at s k)))
    (when_so (nat_lt a (length s.members)) (Some (fraction_in s k a))))

-- what all packages make of a member's contribution, once there is one and no round is open
abbrev pub total_of_member : State → (a : ℕ) → Option MemberTotal
total_of_member s a =
    when_so (not (length s.packages == 0 || any_open s.packages))
    (when_so (nat_lt a (length s.members)) (Some (record {
      fraction = fraction_over s a;
      junior = junior_of s a;
      senior = senior_of s a;
    })))

-- ---- settlement

-- what a settle charged an account
abbrev pub charge_of : State → (account : ℕ) → Option ℕ
charge_of s account = when_so (nat_lt account 64) (option_map (λ f. f account) s.charges)
