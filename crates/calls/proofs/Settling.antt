-- An accepted settlement goes well.
use Rattle.std.proofs.Common.{◌≡◌, ℕ, ◌+◌, ◌<◌, ◌≤◌, true, false, cond, not, List, [], ◌∷◌, length, ℤ, pos, ◌+ℤ◌, ◌-ℤ◌, Some, None, Option, sym, refl, ap, ◌∙◌, subst, arith, MatchOption}
use borrow.Author.Differences.{ints}
use Rattle.std.proofs.lemmas.Bool.{both_ways}
use Rattle.rules.specs.declared.refusal.Refusal.{Refusal}
use Rattle.rules.specs.declared.stage.Stage.{Stage}
use Rattle.rules.specs.declared.stage.Stage.TheVariants.{Roll, Auction, Settled}
use Rattle.rules.specs.Minimums.{contributed}
use Rattle.rules.proofs.Shortness.{no_shortfall_no_fraction}
use Rattle.tiers.specs.Piles.{Bears}
use Rattle.tiers.specs.Waterfall.{charges}
use Rattle.tiers.specs.OwnPile.{unborne}
use Rattle.tiers.proofs.Bearing.{bore}
use Rattle.tiers.proofs.Settling.{settled}
use Rattle.tiers.proofs.Owning.{own_pile_bears, own_charge_is, juniors_first}
use Rattle.calls.specs.State.{State, package_at, is_roll, is_auction, is_settled}
use Rattle.calls.specs.Held.{brought, rounds_of, fraction_over, junior_of, senior_of}
use Rattle.calls.specs.Settlements.{Settlement, hedged, or_none, loss, surplus, own_of, pile_before, pile_then, unborne_of, charges_of}
use Rattle.calls.specs.Settlements.Settlement.{over, own}
use Rattle.calls.specs.Calls.{Call, causes, refusal, accepted, after, IsFair, Fair}
use Rattle.calls.specs.Calls.Call.{multiplier, enrol, close_roll, new_package, bid, strike, residual, settle}
use Rattle.calls.specs.Limits.{Bounded}
use Rattle.calls.specs.Laws.{NoShortfall, Spared, Keeps, SettledWell, settling, settlements, EachSettled}
use Rattle.calls.proofs.Amounts.{none_is}
use Rattle.calls.proofs.Steps.{absent}
use Rattle.calls.proofs.Keeping.{bounded}
use Rattle.calls.proofs.Telling.{unless_two}

-- ---- loss and surplus

balance : (z : ℤ) (hedging charge back : ℕ) → charge + back ≡ or_none (pos hedging -ℤ z) → z +ℤ pos charge +ℤ pos back ≡ pos hedging +ℤ pos (or_none (z -ℤ pos hedging))
balance z hedging charge back e = omega (arith, ints, none_is (pos hedging -ℤ z), none_is (z -ℤ pos hedging))

one_side : (z : ℤ) (hedging : ℕ) → 0 < or_none (pos hedging -ℤ z) → or_none (z -ℤ pos hedging) ≡ 0
one_side z hedging h = omega (arith, ints, none_is (pos hedging -ℤ z), none_is (z -ℤ pos hedging))

-- ---- the pile went as a pile may

pub unborne_is : (s : State) (hedging cash pledges share : ℕ) →
    unborne (own_of s cash pledges share) (loss s (own hedging cash pledges share)) ≡ unborne_of s (own hedging cash pledges share)
unfolding unborne_of
unborne_is s hedging cash pledges share =
    let x = own hedging cash pledges share in
    (bore (pile_before s x) (loss s x) (pile_then s x) (unborne (own_of s cash pledges share) (loss s x)) (own_pile_bears (own_of s cash pledges share) (loss s x))).answers

went_well : (s : State) (x : Settlement) → refusal s (settle x) ≡ None → IsFair s (settle x) → Bears (pile_before s x) (loss s x) (pile_then s x) (unborne_of s x)
went_well s (over hedging p q) clear f =
    subst (λ (o : Option Refusal). MatchOption o (Bears p (loss s (over hedging p q)) q (unborne_of s (over hedging p q))) (λ _. q ≡ p)) clear f
went_well s (own hedging cash pledges share) clear f =
    let x = own hedging cash pledges share in
    subst (Bears (pile_before s x) (loss s x) (pile_then s x)) (unborne_is s hedging cash pledges share) (own_pile_bears (own_of s cash pledges share) (loss s x))

-- ---- who is spared

no_junior : (s : State) (m : ℕ) → NoShortfall s m → junior_of s m ≡ 0
unfolding fraction_over
no_junior s m never =
    no_shortfall_no_fraction.no_junior (length s.packages) (λ k. (package_at s k).margin) (λ k. rounds_of s (package_at s k)) m never (contributed s.members m)

spares : (s : State) (x : Settlement) → length s.members ≤ 60 → Spared s x
spares s (over hedging p q) few = tt
spares s (own hedging cash pledges share) few = λ m l never some.
    let x = loss s (own hedging cash pledges share) in
    juniors_first cash pledges share (junior_of s) (senior_of s) x m (omega arith) (no_junior s m never)
    (omega (arith, own_charge_is (own_of s cash pledges share) x m))

keeps : (s : State) (x : Settlement) → Keeps (charges_of s x) s x
keeps s (over hedging p q) = refl
keeps s (own hedging cash pledges share) = λ a l. ap Some (sym (own_charge_is (own_of s cash pledges share) (loss s (own hedging cash pledges share)) a))

pub settled_well : (s : State) (x : Settlement) → Bounded s → refusal s (settle x) ≡ None → IsFair s (settle x) → SettledWell (accepted s (settle x)) s x
unfolding loss surplus
settled_well s x b clear f =
    let bears = went_well s x clear f in
    let d = settled (pile_before s x) (loss s x) (pile_then s x) (unborne_of s x) bears in
    let r = bore (pile_before s x) (loss s x) (pile_then s x) (unborne_of s x) bears in
    record {
      outcome = refl;
      keeps = keeps s x;
      whole = balance (brought s) (hedged x) (charges (pile_before s x) (pile_then s x)) (unborne_of s x) d.whole;
      loss_is = d.whole;
      either = one_side (brought s) (hedged x);
      rises = r.rises;
      within = d.within;
      order = d.order;
      last = d.last;
      spared = spares s x b.members_few;
    }

-- ---- of every list

roll_unsettled : (st : Stage) → not (is_roll st) ≡ false → is_settled st ≡ false
roll_unsettled Roll h = refl
roll_unsettled Auction h = refl
roll_unsettled Settled h = absurd (both_ways true h refl)

auction_unsettled : (st : Stage) → not (is_auction st) ≡ false → is_settled st ≡ false
auction_unsettled Roll h = refl
auction_unsettled Auction h = refl
auction_unsettled Settled h = absurd (both_ways true h refl)

-- nothing is accepted once a record is settled
unsettled : (s : State) (c : Call) → refusal s c ≡ None → is_settled s.stage ≡ false
unsettled s (multiplier x) e = roll_unsettled s.stage (absent (causes s (multiplier x)) e).0
unsettled s (enrol m) e = roll_unsettled s.stage (absent (causes s (enrol m)) e).0
unsettled s close_roll e = roll_unsettled s.stage (absent (causes s close_roll) e).0
unsettled s (new_package margin reference excused) e = auction_unsettled s.stage (absent (causes s (new_package margin reference excused)) e).0
unsettled s (bid k b) e = auction_unsettled s.stage (absent (causes s (bid k b)) e).0
unsettled s (strike k) e = auction_unsettled s.stage (absent (causes s (strike k)) e).0
unsettled s (residual k parts) e = auction_unsettled s.stage (absent (causes s (residual k parts)) e).0
unsettled s (settle x) e = auction_unsettled s.stage (absent (causes s (settle x)) e).0

-- what the induction carries
pub record Stands (s : State) (xs : List (State × Settlement)) : Type 0 where
  pub once : length xs ≡ cond (is_settled s.stage) 1 0
  pub none : is_settled s.stage ≡ false → (s.outcome ≡ None) × (s.charges ≡ None)
  pub each : EachSettled (SettledWell s) xs

none_yet : (xs : List (State × Settlement)) (st : Stage) → is_settled st ≡ false → length xs ≡ cond (is_settled st) 1 0 → length xs ≡ 0
none_yet xs st h e = e ∙ ap (λ b. cond b 1 0) h

each_none : (P : State → Settlement → Type 0) (xs : List (State × Settlement)) → length xs ≡ 0 → EachSettled P xs
each_none P [] h = tt
each_none P (x ∷ xs) h = absurd (omega arith)

-- a call that is no settlement leaves a record unsettled
goes_on : (s t : State) (xs : List (State × Settlement)) → Stands s xs → is_settled s.stage ≡ false → is_settled t.stage ≡ false → t.outcome ≡ s.outcome → t.charges ≡ s.charges → Stands t xs
goes_on s t xs p before now outcome kept =
    let nothing = none_yet xs s.stage before p.once in
    record {
      once = nothing ∙ ap (λ b. cond b 1 0) (sym now);
      none = λ _. (outcome ∙ (p.none before).0, kept ∙ (p.none before).1);
      each = each_none (SettledWell t) xs nothing;
    }

goes : (s : State) (c : Call) (xs : List (State × Settlement)) → Bounded s → Stands s xs → IsFair s c → refusal s c ≡ None → Stands (accepted s c) (settling s c xs)
goes s (multiplier x) xs b p f e = let u = unsettled s (multiplier x) e in goes_on s _ xs p u u refl refl
goes s (enrol m) xs b p f e = let u = unsettled s (enrol m) e in goes_on s _ xs p u u refl refl
goes s close_roll xs b p f e = goes_on s _ xs p (unsettled s close_roll e) refl refl refl
goes s (new_package margin reference excused) xs b p f e = let u = unsettled s (new_package margin reference excused) e in goes_on s _ xs p u u refl refl
goes s (bid k x) xs b p f e = let u = unsettled s (bid k x) e in goes_on s _ xs p u u refl refl
goes s (strike k) xs b p f e = let u = unsettled s (strike k) e in goes_on s _ xs p u u refl refl
goes s (residual k parts) xs b p f e = let u = unsettled s (residual k parts) e in goes_on s _ xs p u u refl refl
goes s (settle x) xs b p f e =
    let nothing = none_yet xs s.stage (unsettled s (settle x) e) p.once in
    record {
      once = omega (arith, nothing);
      none = λ h. absurd (both_ways true h refl);
      each = (settled_well s x b e f, each_none (SettledWell (accepted s (settle x))) xs nothing);
    }

pub stands : (h : List Call) → Fair h → Stands (after h) (settlements h)
stands [] f = record { once = refl; none = λ _. (refl, refl); each = tt }
stands (c ∷ h) f =
    unless_two Stands (refusal (after h) c) (accepted (after h) c) (after h) (settling (after h) c (settlements h)) (settlements h)
    (stands h f.1) (goes (after h) c (settlements h) (bounded h f.1) (stands h f.1) f.0)
