-- The numbers that a record tells are small.
use Rattle.std.proofs.Common.{◌≡◌, ℕ, ◌+◌, ◌<◌, ◌≤◌, ltb, nat_abs, Some, None, Option, refl, subst, arith}
use Rattle.std.specs.Option.{option_map}
use Rattle.std.proofs.lemmas.Bool.{ltb-true}
use Rattle.shares.specs.Sums.{total}
use Rattle.shares.specs.Shares.{share}
use Rattle.shares.proofs.Totals.{total_grows}
use Rattle.shares.proofs.Sharing.{share_at_most}
use Rattle.rules.specs.Minimums.{all_parts}
use Rattle.rules.specs.Rounds.{allotment, round_price, transfer}
use Rattle.rules.proofs.Dividing.{offer_allotted, allotment_within}
use Rattle.calls.specs.declared.answers.MemberResult.{MemberResult}
use Rattle.calls.specs.declared.answers.RoundPrices.{RoundPrices}
use Rattle.calls.specs.declared.outcome.Outcome.{Outcome}
use Rattle.calls.specs.declared.round_number.RoundNumber.{RoundNumber}
use Rattle.calls.specs.Answers.{then_of, round_prices, member_result}
use Rattle.calls.specs.State.{State}
use Rattle.calls.specs.Held.{Held, held_in}
use Rattle.calls.specs.Calls.{Came}
use Rattle.calls.specs.Limits.{KeptOutcome, KeptCharges}
use Rattle.calls.specs.Questions.{prices_of_round, result_of_member, charge_of}
use Rattle.calls.proofs.HeldRounds.{Solid, solid_held, signed_size, cond_some}
use Rattle.calls.proofs.OneProof.{bounded_of}

-- what is answered of something was answered of what is there
of_there : {A B : Type 0} (o : Option A) (f : A → Option B) (y : B) → then_of o f ≡ Some y → (x : A) × (o ≡ Some x) × (f x ≡ Some y)
of_there None f y e = let z : ◌≡◌ {A = ℕ} 0 1 = cc in absurd (omega arith)
of_there (Some x) f y e = (x, refl, e)

some_is : {A : Type 0} (x y : A) → ◌≡◌ {A = Option A} (Some x) (Some y) → x ≡ y
some_is x y e = cc

pub price_modest : (s : State) → Came s → (k : ℕ) (n : RoundNumber) (p : RoundPrices) → prices_of_round s k n ≡ Some p → nat_abs p.price ≤ 10000000000
price_modest s came k n p e =
    let t = of_there (held_in s k n) round_prices p e in
    let h = t.0 in
    let solid = solid_held s (bounded_of s came) k n h t.1 in
    let is = some_is _ p (cond_some h.struck _ p t.2).1 in
    subst (λ (q : RoundPrices). nat_abs q.price ≤ 10000000000) is solid.price

transfer_low : (h : Held) → Solid h → (a : ℕ) → a < h.round.members → nat_abs (transfer h.round h.offer a) ≤ 10000000000
transfer_low h solid a l =
    let p = round_price h.round h.offer in
    let within : total (a + 1) (allotment h.round h.offer) ≤ all_parts =
    omega (arith, total_grows (a + 1) h.round.members (allotment h.round h.offer) (omega arith), offer_allotted h.round solid.sound h.offer solid.offered, solid.offered) in
    omega (arith, signed_size p (share (nat_abs p) all_parts (allotment h.round h.offer) a), share_at_most (nat_abs p) all_parts (allotment h.round h.offer) a within, solid.price)

pub member_modest : (s : State) → Came s → (k : ℕ) (n : RoundNumber) (a : ℕ) (r : MemberResult) → result_of_member s k n a ≡ Some r → (r.parts ≤ 1000000) × (nat_abs r.transfer ≤ 10000000000)
member_modest s came k n a r e =
    let t = of_there (held_in s k n) (λ h. member_result h a) r e in
    let h = t.0 in
    let solid = solid_held s (bounded_of s came) k n h t.1 in
    let struck = cond_some h.struck _ r t.2 in
    let known = cond_some (ltb a h.round.members) _ r struck.1 in
    let l = ltb-true a h.round.members known.0 in
    let parts : allotment h.round h.offer a ≤ 1000000 = omega (arith, allotment_within h.round solid.sound h.offer solid.offered a l, solid.offered) in
    subst (λ (q : MemberResult). (q.parts ≤ 1000000) × (nat_abs q.transfer ≤ 10000000000)) (some_is _ r known.1) (parts, transfer_low h solid a l)

charge_of_lem : (o : Option (ℕ → ℕ)) → KeptCharges o → (a c : ℕ) → option_map (λ f. f a) o ≡ Some c → c ≤ 10000000000
charge_of_lem None k a c e = let z : ◌≡◌ {A = ℕ} 0 1 = cc in absurd (omega arith)
charge_of_lem (Some f) k a c e = omega (arith, k a, some_is (f a) c e)

pub charge_modest : (s : State) → Came s → (a c : ℕ) → charge_of s a ≡ Some c → c ≤ 10000000000
charge_modest s came a c e = charge_of_lem s.charges (bounded_of s came).charges_kept a c (cond_some (ltb a 64) (option_map (λ f. f a) s.charges) c e).1

pub outcome_modest : (s : State) → Came s → (o : Outcome) → s.outcome ≡ Some o → (o.unborne < 1000000000000) × (o.surplus < 1000000000000)
outcome_modest s came o e =
    let k : KeptOutcome (Some o) = subst KeptOutcome e (bounded_of s came).outcome_kept in
    (omega (arith, k.0, k.1), omega (arith, k.2))
