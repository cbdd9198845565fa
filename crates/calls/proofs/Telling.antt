-- A record holds what its list of calls tells: members, packages, bids, strikes and residuals.
use Rattle.std.proofs.Common.{◌≡◌, ℕ, ◌+◌, ◌<◌, Bool, true, false, cond, not, eqb, ltb, leb, List, [], ◌∷◌, ◌++◌, map, length, get_or, is_some, Some, None, Option, sym, refl, ap, ◌∙◌, subst, arith}
use Rattle.std.specs.List.Sorted.{IsPermutation}
use Rattle.std.proofs.ByRecursion.{All-get_or}
use Rattle.std.proofs.lemmas.List.{get_or_past}
use Rattle.std.proofs.lemmas.List.Sorted.{IsPermutation-refl, IsPermutation-cons, IsPermutation-trans}
use Rattle.std.proofs.lemmas.Bool.{both_ways, eqb-true, eqb-false}
use Rattle.std.proofs.lemmas.Bool.Decides.{nat_tests}
use Rattle.ranked.specs.Order.{arrive, arrivals}
use Rattle.ranked.proofs.Arrivals.{arrive_same}
use Rattle.rules.specs.declared.bid.Bid.{Bid}
use Rattle.rules.specs.declared.member.Member.{Member}
use Rattle.rules.specs.declared.refusal.Refusal.{Refusal}
use Rattle.rules.specs.Bids.{by_price}
use Rattle.rules.specs.Members.{by_name}
use Rattle.calls.specs.declared.round_number.RoundNumber.TheVariants.{First, Second}
use Rattle.calls.specs.Packages.{Bidding, Residual, Package, blank, no_package, newly, later_of, first_with, residual_with, bid_in, struck_in, with_bid, with_strike, with_residual, changed}
use Rattle.calls.specs.State.{State, package_at}
use Rattle.calls.specs.Calls.{Call, causes, refusal, accepted, unless, after, Fair}
use Rattle.calls.specs.Calls.Call.{multiplier, enrol, close_roll, new_package, bid, strike, residual, settle}
use Rattle.calls.specs.Limits.{KeptLater, KeptPackage, Bounded}
use Rattle.calls.specs.Traces.{joined, enrolled, opened_by, openings, as_opened, cuts_by, cuts, strikes_by, strikes, is_for, bids_by, bids_for, Told}
use Rattle.calls.proofs.Steps.{absent}
use Rattle.calls.proofs.Changes.{get_d_changed, get_d_unchanged, map_changed, map_push, get_d_push, get_d_before}
use Rattle.calls.proofs.Biddings.{arrivals_push}
use Rattle.calls.proofs.Keeping.{bounded, either_of}

-- ---- who is on the roll

joins : (s : State) (c : Call) (ms : List Member) → IsPermutation ms s.members → IsPermutation (joined c ms) (accepted s c).members
joins s (multiplier x) ms same = same
joins s (enrol m) ms same = IsPermutation-trans _ (m ∷ s.members) _ (IsPermutation-cons m _ _ same) (arrive_same by_name m s.members)
joins s close_roll ms same = same
joins s (new_package margin reference excused) ms same = same
joins s (bid k b) ms same = same
joins s (strike k) ms same = same
joins s (residual k parts) ms same = same
joins s (settle x) ms same = same

-- a relation between a state and what the list tells goes on, on both ways of a call
pub unless_two : {A : Type 0} (P : State → A → Type 0) (o : Option Refusal) (new old : State) (more less : A) → P old less → (o ≡ None → P new more) → P (unless o new old) (unless o more less)
unless_two P None new old more less p q = q refl
unless_two P (Some r) new old more less p q = p

pub roll : (h : List Call) → IsPermutation (enrolled h) (after h).members
roll [] = IsPermutation-refl []
roll (c ∷ h) =
    unless_two (λ s ms. IsPermutation ms s.members) (refusal (after h) c) (accepted (after h) c) (after h) (joined c (enrolled h)) (enrolled h)
    (roll h) (λ _. joins (after h) c (enrolled h) (roll h))

-- ---- which packages there are

opens : (s : State) (c : Call) (ps : List Package) → map as_opened s.packages ≡ ps → map as_opened (accepted s c).packages ≡ opened_by c ps
opens s (multiplier x) ps same = same
opens s (enrol m) ps same = same
opens s close_roll ps same = same
opens s (new_package margin reference excused) ps same =
    map_push as_opened s.packages (newly margin reference excused) ∙ ap (λ (xs : List Package). xs ++ newly margin reference excused ∷ []) same
opens s (bid k b) ps same = map_changed as_opened (with_bid b) (λ p. refl) s.packages k ∙ same
opens s (strike k) ps same = map_changed as_opened with_strike (λ p. refl) s.packages k ∙ same
opens s (residual k parts) ps same = map_changed as_opened (with_residual parts) (λ p. refl) s.packages k ∙ same
opens s (settle x) ps same = same

pub opened : (h : List Call) → map as_opened (after h).packages ≡ openings h
opened [] = refl
opened (c ∷ h) =
    unless_two (λ s ps. map as_opened s.packages ≡ ps) (refusal (after h) c) (accepted (after h) c) (after h) (opened_by c (openings h)) (openings h)
    (opened h) (λ _. opens (after h) c (openings h) (opened h))

-- ---- what came in each round

-- what the list tells of a package
pub record Trace : Type 0 where
  pub firsts : List Bid
  pub seconds : List Bid
  pub strikes : ℕ
  pub cut : Option ℕ

abbrev pub Tells : Trace → Package → Type 0
Tells t p = Told t.firsts t.seconds t.strikes t.cut p.first p.residual

abbrev traced : Call → ℕ → Trace → Trace
traced c k t = record {
  firsts = bids_by c k (is_for First t.cut) t.firsts;
  seconds = bids_by c k (is_for Second t.cut) t.seconds;
  strikes = strikes_by c k t.strikes;
  cut = cuts_by c k t.cut;
}

arrived_last : (bs : List Bid) (b : Bid) (held : List Bid) → held ≡ arrivals by_price [] bs → arrive by_price b held ≡ arrivals by_price [] (bs ++ b ∷ [])
arrived_last bs b held e = ap (arrive by_price b) e ∙ sym (arrivals_push [] bs b)

bid_told : (b : Bid) (firsts seconds : List Bid) (n : ℕ) (cut : Option ℕ) (first : Bidding) (o : Option Residual) → Told firsts seconds n cut first o →
    Told (cond (is_for First cut) (firsts ++ b ∷ []) firsts) (cond (is_for Second cut) (seconds ++ b ∷ []) seconds) n cut (first_with (bid_in b) first o) (residual_with (bid_in b) o)
bid_told b firsts seconds n None first None t = record { first_bids = arrived_last firsts b first.bids t.first_bids; first_struck = t.first_struck; second = t.second }
bid_told b firsts seconds n (Some x) first None t = let z : ◌≡◌ {A = ℕ} 0 1 = cc t.second.0 in absurd (omega arith)
bid_told b firsts seconds n None first (Some r) t = let z : ◌≡◌ {A = ℕ} 0 1 = cc t.second.0 in absurd (omega arith)
bid_told b firsts seconds n (Some x) first (Some r) t =
    record { first_bids = t.first_bids; first_struck = t.first_struck; second = (t.second.0, arrived_last seconds b r.second.bids t.second.1, t.second.2) }

strike_told : (members : ℕ) (firsts seconds : List Bid) (n : ℕ) (cut : Option ℕ) (first : Bidding) (o : Option Residual) → Told firsts seconds n cut first o →
    KeptLater members first o → (later_of first o).struck ≡ false → Told firsts seconds (n + 1) cut (first_with struck_in first o) (residual_with struck_in o)
strike_told members firsts seconds n cut first None t l still_Open =
    let none : ltb 0 n ≡ false = sym t.first_struck ∙ still_Open in
    record {
      first_bids = t.first_bids;
      first_struck = grind (arith, nat_tests);
      second = (t.second.0, grind (arith, nat_tests), t.second.2);
    }
strike_told members firsts seconds n cut first (Some r) t l still_Open =
    let one : ltb 0 n ≡ true = sym t.first_struck ∙ l.2 in
    let two : ltb 1 n ≡ false = sym t.second.2 ∙ still_Open in
    let still : ltb 0 (n + 1) ≡ true = grind (arith, nat_tests) in
    record {
      first_bids = t.first_bids;
      first_struck = l.2 ∙ sym still;
      second = (t.second.0, t.second.1, grind (arith, nat_tests));
    }

cut_told : (parts : ℕ) (firsts seconds : List Bid) (n : ℕ) (cut : Option ℕ) (first : Bidding) (o : Option Residual) → Told firsts seconds n cut first o →
    is_some o ≡ false → Told firsts seconds n (Some parts) first (Some (record { parts = parts; second = blank }))
cut_told parts firsts seconds n cut first None t none =
    let two : ltb 1 n ≡ false = grind (arith, nat_tests, t.second.1) in
    record { first_bids = t.first_bids; first_struck = t.first_struck; second = (refl, ap (arrivals by_price []) (sym t.second.2), sym two) }
cut_told parts firsts seconds n cut first (Some r) t none = absurd (both_ways true none refl)

-- the package with a number, after a change of one entry
module _ (s : State) (f : Package → Package) (j k : ℕ) (inside : j < length s.packages) where
  at_entry : (Q : Bool → Package → Type 0) → Q true (f (package_at s k)) → Q false (package_at s k) → (t : Bool) → eqb j k ≡ t → Q t (get_or (changed f s.packages j) k no_package)
  at_entry Q here there true e =
      let same : j ≡ k = eqb-true j k e in
      let is : get_or (changed f s.packages j) k no_package ≡ f (package_at s k) =
      ap (λ (i : ℕ). get_or (changed f s.packages i) k no_package) same ∙ get_d_changed f s.packages k no_package (subst (λ (i : ℕ). i < length s.packages) same inside) in
      subst (Q true) (sym is) here
  at_entry Q here there false e =
      let is : get_or (changed f s.packages j) k no_package ≡ package_at s k = get_d_unchanged f s.packages j k no_package (λ e2. eqb-false j k e (sym e2)) in
      subst (Q false) (sym is) there

-- a new package begins as nothing had come for it
new_told : (s : State) (x : Package) (k : ℕ) (P : Package → Type 0) → (P no_package → P x) → P (package_at s k) → (same : Bool) → eqb k (length s.packages) ≡ same →
    P (get_or (s.packages ++ x ∷ []) k no_package)
new_told s x k P begins told true e =
    let here : k ≡ length s.packages = eqb-true k (length s.packages) e in
    let was : package_at s k ≡ no_package = get_or_past s.packages k no_package (omega arith) in
    let is : get_or (s.packages ++ x ∷ []) k no_package ≡ x = ap (λ (i : ℕ). get_or (s.packages ++ x ∷ []) i no_package) here ∙ get_d_push s.packages x no_package in
    subst P (sym is) (begins (subst P was told))
new_told s x k P begins told false e =
    subst P (sym (get_d_before s.packages x no_package k (eqb-false k (length s.packages) e))) told

there_is : (s : State) (k : ℕ) → leb (length s.packages) k ≡ false → k < length s.packages
there_is s k h = grind (arith, nat_tests)

kept_of : (s : State) → Bounded s → (k : ℕ) → k < length s.packages → KeptPackage (length s.members) (package_at s k)
kept_of s b k l = All-get_or (KeptPackage (length s.members)) s.packages k no_package l b.packages_kept

module _ (s : State) (b : Bounded s) (k : ℕ) (t : Trace) (told : Tells t (package_at s k)) where
  tells_on : (c : Call) → refusal s c ≡ None → Tells (traced c k t) (package_at (accepted s c) k)
  tells_on (multiplier x) e = told
  tells_on (enrol m) e = told
  tells_on close_roll e = told
  tells_on (new_package margin reference excused) e =
      new_told s (newly margin reference excused) k (Tells t) (λ p. p) told (eqb k (length s.packages)) refl
  tells_on (bid j x) e =
      let inside = there_is s j (absent (causes s (bid j x)) e).1.0 in
      at_entry s (with_bid x) j k inside
      (λ v p. Told (cond v (cond (is_for First t.cut) (t.firsts ++ x ∷ []) t.firsts) t.firsts) (cond v (cond (is_for Second t.cut) (t.seconds ++ x ∷ []) t.seconds) t.seconds) t.strikes t.cut p.first p.residual)
      (bid_told x t.firsts t.seconds t.strikes t.cut (package_at s k).first (package_at s k).residual told) told (eqb j k) refl
  tells_on (strike j) e = strikes_on j e (eqb j k) refl
    where
      strikes_on : (j : ℕ) → refusal s (strike j) ≡ None → (v : Bool) → eqb j k ≡ v → Tells (traced (strike j) k t) (package_at (accepted s (strike j)) k)
      strikes_on j e true same =
          let is : j ≡ k = eqb-true j k same in
          let a = absent (causes s (strike j)) e in
          let inside = there_is s j a.1.0 in
          let here : (later_of (package_at s k).first (package_at s k).residual).struck ≡ false = subst (λ (i : ℕ). (later_of (package_at s i).first (package_at s i).residual).struck ≡ false) is a.1.1.0 in
          let kept = kept_of s b k (subst (λ (i : ℕ). i < length s.packages) is inside) in
          at_entry s with_strike j k inside (λ v p. Told t.firsts t.seconds (cond v (t.strikes + 1) t.strikes) t.cut p.first p.residual)
          (strike_told (length s.members) t.firsts t.seconds t.strikes t.cut (package_at s k).first (package_at s k).residual told kept.later here) told (eqb j k) refl
      strikes_on j e false same =
          let inside = there_is s j (absent (causes s (strike j)) e).1.0 in
          let off : cond (eqb j k) (t.strikes + 1) t.strikes ≡ t.strikes = ap (λ v. cond v (t.strikes + 1) t.strikes) same in
          let is : get_or (changed with_strike s.packages j) k no_package ≡ package_at s k = get_d_unchanged with_strike s.packages j k no_package (λ e2. eqb-false j k same (sym e2)) in
          subst (λ (n : ℕ). Told t.firsts t.seconds n t.cut (package_at (accepted s (strike j)) k).first (package_at (accepted s (strike j)) k).residual) (sym off)
          (subst (Tells t) (sym is) told)
  tells_on (residual j parts) e = cuts_on j parts e (eqb j k) refl
    where
      cuts_on : (j parts : ℕ) → refusal s (residual j parts) ≡ None → (v : Bool) → eqb j k ≡ v → Tells (traced (residual j parts) k t) (package_at (accepted s (residual j parts)) k)
      cuts_on j parts e true same =
          let is : j ≡ k = eqb-true j k same in
          let a = absent (causes s (residual j parts)) e in
          let inside = there_is s j a.1.0 in
          let none : is_some (package_at s k).residual ≡ false =
          subst (λ (i : ℕ). is_some (package_at s i).residual ≡ false) is (either_of (not (package_at s j).first.struck) (is_some (package_at s j).residual) a.1.1.1.0).1 in
          at_entry s (with_residual parts) j k inside (λ v p. Told t.firsts t.seconds t.strikes (cond v (Some parts) t.cut) p.first p.residual)
          (cut_told parts t.firsts t.seconds t.strikes t.cut (package_at s k).first (package_at s k).residual told none) told (eqb j k) refl
      cuts_on j parts e false same =
          let off : cond (eqb j k) (Some parts) t.cut ≡ t.cut = ap (λ v. cond v (Some parts) t.cut) same in
          let is : get_or (changed (with_residual parts) s.packages j) k no_package ≡ package_at s k = get_d_unchanged (with_residual parts) s.packages j k no_package (λ e2. eqb-false j k same (sym e2)) in
          subst (λ (o : Option ℕ). Told t.firsts t.seconds t.strikes o (package_at (accepted s (residual j parts)) k).first (package_at (accepted s (residual j parts)) k).residual) (sym off)
          (subst (Tells t) (sym is) told)
  tells_on (settle x) e = told

abbrev trace_of : List Call → ℕ → Trace
trace_of h k = record { firsts = bids_for h k First; seconds = bids_for h k Second; strikes = strikes h k; cut = cuts h k }

unless_trace : (o : Option Refusal) (new old : State) (k : ℕ) (more less : Trace) → Tells less (package_at old k) → (o ≡ None → Tells more (package_at new k)) →
    Told (unless o more.firsts less.firsts) (unless o more.seconds less.seconds) (unless o more.strikes less.strikes) (unless o more.cut less.cut)
    (package_at (unless o new old) k).first (package_at (unless o new old) k).residual
unless_trace None new old k more less p q = q refl
unless_trace (Some r) new old k more less p q = p

pub rounds_told : (h : List Call) → Fair h → (k : ℕ) → Tells (trace_of h k) (package_at (after h) k)
rounds_told [] f k = record { first_bids = refl; first_struck = refl; second = (refl, omega arith, refl) }
rounds_told (c ∷ h) f k =
    let before = rounds_told h f.1 k in
    unless_trace (refusal (after h) c) (accepted (after h) c) (after h) k (traced c k (trace_of h k)) (trace_of h k) before
    (tells_on (after h) (bounded h f.1) k (trace_of h k) before c)
