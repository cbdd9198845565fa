-- The terms that a round opens with are those of the rules.
use Rattle.std.proofs.Common.{◌≡◌, ℕ, ◌*◌, ◌≤◌, not, List, [], length, ℤ, sym, ap, ◌∙◌, inl, inr, zero-mul, arith}
use Rattle.std.proofs.lemmas.List.{get_or_past}
use Rattle.std.proofs.lemmas.Bool.{cases_lt}
use Rattle.shares.specs.Sums.{at, total}
use Rattle.rules.specs.declared.member.Member.{Member}
use Rattle.rules.specs.Members.{nobody}
use Rattle.rules.specs.Amounts.{when}
use Rattle.rules.specs.Minimums.{ceil, contributed, counted, first_minimum, is_excused, minimum_of}
use Rattle.rules.specs.Residuals.{cut_allotment, cut_margin, cut_reference, second_minimum, second_round}
use Rattle.rules.specs.Rounds.{Round, first_round}
use Rattle.rules.proofs.Covering.{ceil_none}
use Rattle.rules.proofs.Credits.{second_none}
use Rattle.auction.specs.Asked.{Asked}
use Rattle.auction.specs.Orderly.{round_of}
use Rattle.auction.specs.Rows.{Row}
use Rattle.auction.specs.Seconds.{AskedAgain}
use Rattle.book.specs.Terms.{terms_in}

-- a row that has nothing behind its first n numbers shows all of f, if f has nothing behind them
row_is : (n : ℕ) (f : ℕ → ℕ) (row : List ℕ) → Row n f row → ((a : ℕ) → n ≤ a → f a ≡ 0) → (a : ℕ) → at row a ≡ f a
row_is n f row shown none a = elim (cases_lt a n) [ inl l ↦ shown.shows a l | inr h ↦ shown.blank a h ∙ sym (none a h) ]

-- ---- a first round

when_none : (b : _) (n : ℕ) → n ≡ 0 → when b n ≡ 0
when_none b n e = grind arith

-- nobody behind the last member has a minimum
none_behind : (members : List Member) (multiplier excused a : ℕ) → length members ≤ a → first_minimum members multiplier excused a ≡ 0
unfolding minimum_of
none_behind members x excused a h =
    let w = counted members excused in
    let nobody-there : contributed members a ≡ 0 = ap (λ (m : Member). m.contribution) (get_or_past members a nobody h) in
    let none : w a ≡ 0 = when_none (not (is_excused excused a)) (contributed members a) nobody-there in
    let product : w a * x * 1000 ≡ 0 = omega (arith, ap (λ n. n * x) none, zero-mul x) in
    omega (arith, ap (λ n. ceil n (total (length members) w)) product, ceil_none (total (length members) w))

pub first_is : (members : List Member) (multiplier excused margin : ℕ) (row : List ℕ) (z reference : ℤ) → Asked members multiplier excused row → z ≡ reference →
    round_of [] row (length members) z margin ≡ first_round members multiplier excused margin reference []
first_is members multiplier excused margin row z reference asked e = λ i. record {
  members = length members;
  minimum = λ a. row_is (length members) (first_minimum members multiplier excused) row asked.shown (none_behind members multiplier excused) a i;
  bids = [];
  reference = e i;
  margin = margin;
}

-- ---- a second round

pub second_is : (r : Round) (residual margin : ℕ) (row : List ℕ) (reference : ℤ) → ((a : ℕ) → r.members ≤ a → r.minimum a ≡ 0) → AskedAgain r residual row →
    reference ≡ cut_reference residual r.reference → margin ≡ cut_margin residual r.margin →
    terms_in (round_of [] row r.members reference margin) ≡ terms_in (second_round r residual [])
second_is r residual margin row reference spare asked er em =
    let minimum = second_minimum r.members r.minimum (cut_allotment r residual) in
    λ i. record {
      members = r.members;
      minimum = λ a. row_is r.members minimum row asked.shown (λ k h. second_none r.members r.minimum (cut_allotment r residual) k (spare k h)) a i;
      reference = er i;
      margin = em i;
    }
