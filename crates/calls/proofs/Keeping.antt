-- Every call keeps the limits of a record.
use Rattle.std.proofs.Common.{◌≡◌, ℕ, ◌+◌, ◌^◌, ◌<◌, ◌≤◌, Bool, true, false, not, ◌||◌, eqb, ltb, leb, List, [], ◌∷◌, length, get_or, ℤ, is_some, Some, None, Option, sym, refl, ◌∙◌, arith, length-append}
use Rattle.std.specs.List.{AllByRecursion as All}
use Rattle.std.proofs.ByRecursion.{All-get_or, All-push}
use Rattle.std.proofs.lemmas.List.Sorted.{length_permutation}
use Rattle.std.proofs.lemmas.Bool.{both_ways}
use Rattle.std.proofs.lemmas.Bool.Decides.{nat_tests}
use Rattle.ranked.specs.Order.{TotalOrder, arrive}
use Rattle.ranked.proofs.Arrivals.{all_arrive, arrive_same}
use Rattle.rules.specs.declared.bid.Bid.{Bid}
use Rattle.rules.specs.declared.member.Member.{Member}
use Rattle.rules.specs.declared.refusal.Refusal.{Refusal}
use Rattle.rules.specs.declared.stage.Stage.{Stage}
use Rattle.rules.specs.declared.stage.Stage.TheVariants.{Roll, Auction, Settled}
use Rattle.rules.specs.Names.{is_plain}
use Rattle.rules.specs.Members.{by_name}
use Rattle.rules.specs.NameOrder.{bytes_order}
use Rattle.calls.specs.Packages.{Bidding, Residual, Package, no_package, newly, latest, later_of, first_with, residual_with, with_latest, bid_in, struck_in, with_bid, with_strike, with_residual, sizes_of, changed}
use Rattle.calls.specs.State.{State, package_at, is_roll, is_auction}
use Rattle.calls.specs.Calls.{Call, outside, outside_price, causes, refusal, accepted, unless, after, IsFair, Fair}
use Rattle.calls.specs.Calls.Call.{multiplier, enrol, close_roll, new_package, bid, strike, residual, settle}
use Rattle.calls.specs.Limits.{EachMember, KeptBid, KeptBidding, KeptLater, KeptPackage, KeptOutcome, KeptCharges, Bounded}
use Rattle.calls.proofs.Rolls.{Ascending, ascending_at, arrive_ascending}
use Rattle.calls.proofs.Steps.{absent, within, not_not, enrollable}
use Rattle.calls.proofs.Changes.{length-changed, all_changed}
use Rattle.calls.proofs.Amounts.{outcome_kept, charges_kept}
use Rattle.calls.proofs.Biddings.{price_within, blank_kept, struck_kept, bid_kept}

pub name_order : TotalOrder by_name
name_order = record {
  turned = λ a b. bytes_order.turned a.name.bytes b.name.bytes;
  before = λ a b c. bytes_order.before a.name.bytes b.name.bytes c.name.bytes;
  level = λ a b c. bytes_order.level a.name.bytes b.name.bytes c.name.bytes;
}

-- what is known of everybody on the roll
record Enlisted (m : Member) : Type 0 where
  low : 1 ≤ m.contribution
  high : m.contribution ≤ 25000000
  eight : length m.name.bytes ≡ 8
  plain : is_plain m.name.bytes ≡ true

-- `Bounded`, as the induction has it
record Solid (s : State) : Type 0 where
  low : 1000 ≤ s.multiplier
  high : s.multiplier ≤ 4000
  few : length s.members ≤ 60
  some : is_roll s.stage ≡ false → 0 < length s.members
  each : All Enlisted s.members
  ascend : Ascending name_order s.members
  packages : length s.packages ≤ 8
  none : is_roll s.stage ≡ true → length s.packages ≡ 0
  kept : All (KeptPackage (length s.members)) s.packages
  outcome : KeptOutcome s.outcome
  charges : KeptCharges s.charges

length-arrive : (m : Member) (ms : List Member) → length (arrive by_name m ms) ≡ length ms + 1
length-arrive m ms = omega (arith, length_permutation (m ∷ ms) (arrive by_name m ms) (arrive_same by_name m ms))

pub not_roll : (st : Stage) → is_auction st ≡ true → is_roll st ≡ false
not_roll Roll h = sym h
not_roll Auction h = refl
not_roll Settled h = refl

all_empty : {A : Type 0} (P : A → Type 0) (xs : List A) → length xs ≡ 0 → All P xs
all_empty P [] h = tt
all_empty P (x ∷ xs) h = absurd (omega arith)

-- ---- packages

pub either_of : (a b : Bool) → a || b ≡ false → (a ≡ false) × (b ≡ false)
either_of true b h = absurd (both_ways true h refl)
either_of false b h = (refl, h)

new_kept : (s : State) (margin : ℕ) (reference : ℤ) (excused : ℕ) → refusal s (new_package margin reference excused) ≡ None → KeptPackage (length s.members) (newly margin reference excused)
new_kept s margin reference excused e =
    let a = absent (causes s (new_package margin reference excused)) e in
    let stray : leb (2 ^ length s.members) excused ≡ false = a.1.0 in
    let amounts = either_of (outside 1 1000000000 margin) (outside_price reference) a.1.1.0 in
    let m = within 1 1000000000 margin amounts.0 in
    record {
      margin_low = m.0;
      margin_high = m.1;
      price = price_within reference amounts.1;
      no_stray = grind (arith, nat_tests);
      serving = a.1.1.1.1.0;
      first = blank_kept (length s.members);
      later = tt;
    }

later_kept : (n : ℕ) (f : Bidding → Bidding) (first : Bidding) (o : Option Residual) →
    (KeptBidding n (later_of first o) → KeptBidding n (f (later_of first o))) → KeptBidding n first → KeptLater n first o →
    KeptBidding n (first_with f first o) × KeptLater n (first_with f first o) (residual_with f o)
later_kept n f first None step k l = (step k, tt)
later_kept n f first (Some r) step k l = (k, (l.0, l.1, l.2, step l.3))

latest_kept : (n : ℕ) (f : Bidding → Bidding) (p : Package) → (KeptBidding n (latest p) → KeptBidding n (f (latest p))) → KeptPackage n p → KeptPackage n (with_latest f p)
latest_kept n f p step k =
    let l = later_kept n f p.first p.residual step k.first k.later in
    record {
      margin_low = k.margin_low;
      margin_high = k.margin_high;
      price = k.price;
      no_stray = k.no_stray;
      serving = k.serving;
      first = l.0;
      later = l.1;
    }

bid_with : (s : State) (k : ℕ) (b : Bid) → refusal s (bid k b) ≡ None → KeptPackage (length s.members) (package_at s k) → KeptPackage (length s.members) (with_bid b (package_at s k))
bid_with s k b e =
    let a = absent (causes s (bid k b)) e in
    let known : leb (length s.members) b.member ≡ false = a.1.1.0 in
    let amounts = either_of (outside 1 1000000 b.size) (outside_price b.price) a.1.1.1.0 in
    let z = within 1 1000000 b.size amounts.0 in
    let room : leb 96 (length (latest (package_at s k)).bids) ≡ false = a.1.1.1.1.0 in
    let fits : ltb 1000000 (sizes_of b.member (latest (package_at s k)).bids + b.size) ≡ false = a.1.1.1.1.1.0 in
    let ok : KeptBid (length s.members) b = record { known = grind (arith, nat_tests); some = z.0; whole = z.1; price = price_within b.price amounts.1 } in
    latest_kept (length s.members) (bid_in b) (package_at s k)
    (bid_kept (length s.members) b (latest (package_at s k)) ok (grind (arith, nat_tests)) (grind (arith, nat_tests)))

strike_with : (n : ℕ) (p : Package) → KeptPackage n p → KeptPackage n (with_strike p)
strike_with n p = latest_kept n struck_in p (struck_kept n (latest p))

residual_with_lem : (s : State) (k parts : ℕ) → refusal s (residual k parts) ≡ None → KeptPackage (length s.members) (package_at s k) → KeptPackage (length s.members) (with_residual parts (package_at s k))
residual_with_lem s k parts e p =
    let a = absent (causes s (residual k parts)) e in
    let cut = within 1 999999 parts a.1.1.0 in
    let ready = either_of (not (package_at s k).first.struck) (is_some (package_at s k).residual) a.1.1.1.0 in
    record {
      margin_low = p.margin_low;
      margin_high = p.margin_high;
      price = p.price;
      no_stray = p.no_stray;
      serving = p.serving;
      first = p.first;
      later = (cut.0, cut.1, not_not (package_at s k).first.struck ready.0, blank_kept (length s.members));
    }

-- a call of stage Auction that changes one package
entry_kept : (s : State) (f : Package → Package) (k : ℕ) → Solid s → (KeptPackage (length s.members) (package_at s k) → KeptPackage (length s.members) (f (package_at s k))) →
    (length (changed f s.packages k) ≤ 8) × (length (changed f s.packages k) ≡ length s.packages) × All (KeptPackage (length s.members)) (changed f s.packages k)
entry_kept s f k p step =
    let same = length-changed f s.packages k in
    (omega (arith, p.packages), same, all_changed (KeptPackage (length s.members)) f s.packages k no_package step p.kept)

each_of : (P : Member → Type 0) → ((m : Member) → Enlisted m → P m) → (ms : List Member) → All Enlisted ms → EachMember P ms
each_of P says ms all k d l = says (get_or ms k d) (All-get_or Enlisted ms k d l all)

bounded_from : (s : State) → Solid s → Bounded s
bounded_from s p = record {
  multiplier_low = p.low;
  multiplier_high = p.high;
  members_few = p.few;
  members_some = p.some;
  contributions_low = each_of (λ m. 1 ≤ m.contribution) (λ m q. q.low) s.members p.each;
  contributions_high = each_of (λ m. m.contribution ≤ 25000000) (λ m q. q.high) s.members p.each;
  names_eight = each_of (λ m. length m.name.bytes ≡ 8) (λ m q. q.eight) s.members p.each;
  names_plain = each_of (λ m. is_plain m.name.bytes ≡ true) (λ m q. q.plain) s.members p.each;
  names_ascend = ascending_at name_order s.members p.ascend;
  packages_few = p.packages;
  packages_none = p.none;
  packages_kept = p.kept;
  outcome_kept = p.outcome;
  charges_kept = p.charges;
}

goes : (s : State) (c : Call) → Solid s → IsFair s c → refusal s c ≡ None → Solid (accepted s c)
goes s (multiplier x) p f e =
    let inside = within 1000 4000 x (absent (causes s (multiplier x)) e).1.0 in
    record { low = inside.0; high = inside.1; few = p.few; some = p.some; each = p.each; ascend = p.ascend; packages = p.packages; none = p.none; kept = p.kept; outcome = p.outcome; charges = p.charges }
goes s (enrol m) p f e =
    let ok = enrollable s m e in
    let more = length-arrive m s.members in
    record {
      low = p.low;
      high = p.high;
      few = omega (arith, ok.room);
      some = λ _. omega arith;
      each = all_arrive name_order Enlisted m s.members (record { low = ok.low; high = ok.high; eight = f; plain = ok.plain }) p.each;
      ascend = arrive_ascending name_order m s.members p.ascend ok.new;
      packages = p.packages;
      none = p.none;
      kept = all_empty (KeptPackage (length (arrive by_name m s.members))) s.packages (p.none (not_not (is_roll s.stage) (absent (causes s (enrol m)) e).0));
      outcome = p.outcome;
      charges = p.charges;
    }
goes s close_roll p f e =
    let filled : eqb (length s.members) 0 ≡ false = (absent (causes s close_roll) e).1.0 in
    record {
      low = p.low;
      high = p.high;
      few = p.few;
      some = λ _. grind (arith, nat_tests);
      each = p.each;
      ascend = p.ascend;
      packages = p.packages;
      none = λ h. absurd (both_ways false refl h);
      kept = p.kept;
      outcome = p.outcome;
      charges = p.charges;
    }
goes s (new_package margin reference excused) p f e =
    let room : leb 8 (length s.packages) ≡ false = (absent (causes s (new_package margin reference excused)) e).1.1.1.0 in
    let stage = not_roll s.stage (not_not (is_auction s.stage) (absent (causes s (new_package margin reference excused)) e).0) in
    record {
      low = p.low;
      high = p.high;
      few = p.few;
      some = p.some;
      each = p.each;
      ascend = p.ascend;
      packages = simp length-append (grind (arith, nat_tests));
      none = λ h. absurd (both_ways (is_roll s.stage) stage h);
      kept = All-push (KeptPackage (length s.members)) s.packages (newly margin reference excused) p.kept (new_kept s margin reference excused e);
      outcome = p.outcome;
      charges = p.charges;
    }
goes s (bid k b) p f e =
    let q = entry_kept s (with_bid b) k p (bid_with s k b e) in
    record { low = p.low; high = p.high; few = p.few; some = p.some; each = p.each; ascend = p.ascend; packages = q.0; none = λ h. q.1 ∙ p.none h; kept = q.2; outcome = p.outcome; charges = p.charges }
goes s (strike k) p f e =
    let q = entry_kept s with_strike k p (strike_with (length s.members) (package_at s k)) in
    record { low = p.low; high = p.high; few = p.few; some = p.some; each = p.each; ascend = p.ascend; packages = q.0; none = λ h. q.1 ∙ p.none h; kept = q.2; outcome = p.outcome; charges = p.charges }
goes s (residual k parts) p f e =
    let q = entry_kept s (with_residual parts) k p (residual_with_lem s k parts e) in
    record { low = p.low; high = p.high; few = p.few; some = p.some; each = p.each; ascend = p.ascend; packages = q.0; none = λ h. q.1 ∙ p.none h; kept = q.2; outcome = p.outcome; charges = p.charges }
goes s (settle x) p f e =
    let stage = not_roll s.stage (not_not (is_auction s.stage) (absent (causes s (settle x)) e).0) in
    record {
      low = p.low;
      high = p.high;
      few = p.few;
      some = λ _. p.some stage;
      each = p.each;
      ascend = p.ascend;
      packages = p.packages;
      none = λ h. absurd (both_ways false refl h);
      kept = p.kept;
      outcome = outcome_kept s x (bounded_from s p) (absent (causes s (settle x)) e).1.0;
      charges = charges_kept s x (bounded_from s p) (absent (causes s (settle x)) e).1.0;
    }

pub unless_both : {A : Type 0} (P : A → Type 0) (o : Option Refusal) (new old : A) → P old → (o ≡ None → P new) → P (unless o new old)
unless_both P None new old p q = q refl
unless_both P (Some r) new old p q = p

solid : (h : List Call) → Fair h → Solid (after h)
solid [] f = record {
  low = omega arith;
  high = omega arith;
  few = omega arith;
  some = λ e. absurd (both_ways true e refl);
  each = tt;
  ascend = tt;
  packages = omega arith;
  none = λ _. refl;
  kept = tt;
  outcome = tt;
  charges = tt;
}
solid (c ∷ h) f = unless_both Solid (refusal (after h) c) (accepted (after h) c) (after h) (solid h f.1) (goes (after h) c (solid h f.1) f.0)

pub bounded : (h : List Call) → Fair h → Bounded (after h)
bounded h f = bounded_from (after h) (solid h f)
