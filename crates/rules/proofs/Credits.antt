-- Somebody takes the credits, and the second minimums reach the whole again.
use Rattle.std.proofs.Common.{◌≡◌, ℕ, ◌+◌, ◌-◌, ◌<◌, ◌≤◌, min, eqb, List, sym, refl, ap, ◌∙◌, inl, inr, arith}
use Rattle.std.proofs.lemmas.Bool.{cases_lt}
use Rattle.std.proofs.lemmas.Bool.Decides.{nat_tests}
use Rattle.shares.specs.Sums.{total}
use Rattle.shares.specs.Shares.{dealt}
use Rattle.shares.proofs.Totals.{total_plus, total-minus, total-le, total_within, total_capped}
use Rattle.shares.proofs.Sharing.{shares_add_up, shares_whole, dealt_of_none, share_weightless}
use Rattle.rules.specs.declared.bid.Bid.{Bid}
use Rattle.rules.specs.Amounts.{when}
use Rattle.rules.specs.Minimums.{all_parts}
use Rattle.rules.specs.Rounds.{Round, Sound, shortfall, allotment}
use Rattle.rules.specs.Residuals.{cut_offer, credit, rising, rise, second_minimum, credits, rise_base, cut_allotment, second_round}
use Rattle.rules.specs.RoundLaws.{HandedOn, CreditsTaken, SecondMinimumsCover, SecondMinimumsBounded, NoMinimumOwesNothing, ExcusedOwesNothing}
use Rattle.rules.proofs.Covering.{excused_minimum}
use Rattle.rules.proofs.Dividing.{offer_allotted}

-- a minimum that does not rise is reached, with its credit
no_rise : (x c l : ℕ) → c ≡ min x (l - x) → when (eqb c 0) x ≡ 0 → x + c ≤ l
no_rise x c l e h = grind (arith, nat_tests)

module _ (r : Round) (sound : Sound r) (q : ℕ) (h : q ≤ all_parts) where
  -- if no minimum rises, the whole is offered and there is no credit
  none_rise : rise_base r q ≤ 0 → (all_parts ≤ q) × (credits r q ≡ 0)
  none_rise none =
      let reached : (a : ℕ) → a < r.members → r.minimum a + credit r.minimum (allotment r q) a ≤ allotment r q a =
      λ a l. no_rise (r.minimum a) (credit r.minimum (allotment r q) a) (allotment r q a) refl (omega (arith, total_within r.members (rising r.minimum (allotment r q)) a l)) in
      let all : total r.members r.minimum + credits r q ≤ q =
      omega (
        arith,
        offer_allotted r sound q h,
        total_plus r.members r.minimum (credit r.minimum (allotment r q)),
        total-le r.members (λ a. r.minimum a + credit r.minimum (allotment r q) a) (allotment r q) reached,
      ) in
      (omega (arith, sound.covered), omega (arith, sound.covered))

  -- no credit, no rise
  no_rises : credits r q ≡ 0 → total r.members (rise r.members r.minimum (allotment r q)) ≡ 0
  no_rises none =
      let base = rise_base r q in
      shares_add_up (credits r q) base (rising r.minimum (allotment r q)) r.members ∙ ap (λ n. dealt n base base) none ∙ dealt_of_none base base

  taken : HandedOn r q
  taken =
      elim (cases_lt 0 (rise_base r q)) [
        | inl some ↦ record {
          some = λ _. some;
          cut = λ _. some;
          whole = shares_whole (credits r q) (rise_base r q) (rising r.minimum (allotment r q)) r.members some refl;
        }
        | inr none ↦ (
            let never = none_rise none in
            record {
              some = λ c. absurd (omega (arith, never.1));
              cut = λ c. absurd (omega (arith, never.0));
              whole = no_rises never.1 ∙ sym never.1;
            })
      ]

  reach : all_parts ≤ total r.members (second_minimum r.members r.minimum (allotment r q))
  unfolding second_minimum
  reach =
      let rises : ℕ → ℕ = rise r.members r.minimum (allotment r q) in
      omega (
        arith,
        sound.covered,
        taken.whole,
        total-minus r.members (credit r.minimum (allotment r q)) r.minimum (λ a l. omega arith),
        total_plus r.members (λ a. r.minimum a - credit r.minimum (allotment r q) a) rises,
        total_capped r.members all_parts (λ a. r.minimum a - credit r.minimum (allotment r q) a + rises a),
      )

pub credits-taken : CreditsTaken
credits-taken r sound q h = taken r sound q h

pub second_minimums_cover : SecondMinimumsCover
second_minimums_cover r sound residual = reach r sound (cut_offer residual) (omega arith)

pub second_minimums_bounded : SecondMinimumsBounded
unfolding second_minimum
second_minimums_bounded r residual a = omega arith

-- a minimum of 0 stays 0
pub second_none : (count : ℕ) (minimum allotted : ℕ → ℕ) (a : ℕ) → minimum a ≡ 0 → second_minimum count minimum allotted a ≡ 0
unfolding second_minimum
second_none count minimum allotted a none =
    let still : rising minimum allotted a ≡ 0 = no_weight (minimum a) (credit minimum allotted a) none in
    omega (arith, share_weightless (total count (credit minimum allotted)) (total count (rising minimum allotted)) (rising minimum allotted) a still)
  where
    no_weight : (x c : ℕ) → x ≡ 0 → when (eqb c 0) x ≡ 0
    no_weight x c e = grind (arith, nat_tests)

-- and has no shortfall
pub none_short : (r : Round) (a : ℕ) → r.minimum a ≡ 0 → shortfall r a ≡ 0
unfolding shortfall
none_short r a none = omega arith

pub no_minimum_owes_nothing : NoMinimumOwesNothing
no_minimum_owes_nothing r a none =
    let second : (residual : ℕ) (bids : List Bid) → (second_round r residual bids).minimum a ≡ 0 =
    λ residual bids. second_none r.members r.minimum (cut_allotment r residual) a none in
    record {
      no_minimum = none;
      no_shortfall = none_short r a none;
      second_minimum = second;
      second_shortfall = λ residual bids. none_short (second_round r residual bids) a (second residual bids);
    }

pub excused_owes_nothing : ExcusedOwesNothing
excused_owes_nothing members x excused margin reference bids a e =
    no_minimum_owes_nothing _ a (excused_minimum members x excused a e)
