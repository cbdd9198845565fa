-- The law of every list of calls, by induction over the list.
use Rattle.std.proofs.Common.{◌≡◌, ℕ, ◌+◌, ◌<◌, ◌≤◌, true, false, eqb, List, [], ◌∷◌, length, get_or, Some, None, Option, refl, arith}
use mathlib.Core.Bool.{Bool-set}
use mathlib.Core.Logic.{∥∥₁_map}
use native.Mathlib.Bridge.{le_prop}
use native.Mathlib.Nat.{ℕ_set}
use Rattle.std.specs.List.{AllByRecursion as All}
use Rattle.std.specs.List.Sorted.{IsPermutation}
use Rattle.std.proofs.ByRecursion.{All-get_or}
use Rattle.std.proofs.lemmas.List.Sorted.{length_permutation, IsPermutation-refl, IsPermutation-cons, IsPermutation-trans}
use Rattle.std.proofs.lemmas.Bool.Decides.{nat_tests}
use Rattle.ranked.specs.Order.{TotalOrder, arrive}
use Rattle.ranked.proofs.Arrivals.{all_arrive, arrive_same}
use Rattle.rules.specs.declared.member.Member.{Member}
use Rattle.rules.specs.declared.refusal.Refusal.{Refusal}
use Rattle.rules.specs.Names.{is_plain}
use Rattle.rules.specs.Members.{by_name}
use Rattle.rules.specs.State.{State, is_roll}
use Rattle.rules.specs.Calls.{Call, causes, refusal, accepted, unless, after, IsFair, Fair, Came}
use Rattle.rules.specs.Calls.Call.{multiplier, enrol, close_roll}
use Rattle.rules.specs.Laws.{EachMember, Bounded, joined, enrolled, EveryList, Lawful}
use Rattle.rules.specs.NameOrder.{bytes_order}
use Rattle.rules.proofs.Rolls.{Ascending, ascending_at, arrive_ascending}
use Rattle.rules.proofs.Steps.{absent, within, enrollable}
use Rattle.rules.proofs.Histories.{of_came}

pub name_order : TotalOrder by_name
name_order = record {
  turned = λ a b. bytes_order.turned a.name.bytes b.name.bytes;
  before = λ a b c. bytes_order.before a.name.bytes b.name.bytes c.name.bytes;
  level = λ a b c. bytes_order.level a.name.bytes b.name.bytes c.name.bytes;
}

-- what is known of everybody on the roll
record Enlisted (m : Member) : Type 0 where
  low : 1 ≤ m.contribution
  high : m.contribution ≤ 25000000
  eight : length m.name.bytes ≡ 8
  plain : is_plain m.name.bytes ≡ true

-- `Bounded`, as the induction has it
record Solid (s : State) : Type 0 where
  low : 1000 ≤ s.multiplier
  high : s.multiplier ≤ 4000
  few : length s.members ≤ 60
  some : is_roll s.stage ≡ false → 0 < length s.members
  each : All Enlisted s.members
  ascend : Ascending name_order s.members

length-arrive : (m : Member) (ms : List Member) → length (arrive by_name m ms) ≡ length ms + 1
length-arrive m ms = omega (arith, length_permutation (m ∷ ms) (arrive by_name m ms) (arrive_same by_name m ms))

goes : (s : State) (c : Call) → Solid s → IsFair s c → refusal s c ≡ None → Solid (accepted s c)
goes s (multiplier x) p f e =
    let inside = within 1000 4000 x (absent (causes s (multiplier x)) e).1.0 in
    record { low = inside.0; high = inside.1; few = p.few; some = p.some; each = p.each; ascend = p.ascend }
goes s (enrol m) p f e =
    let ok = enrollable s m e in
    let more = length-arrive m s.members in
    record {
      low = p.low;
      high = p.high;
      few = omega (arith, ok.room);
      some = λ _. omega arith;
      each = all_arrive name_order Enlisted m s.members (record { low = ok.low; high = ok.high; eight = f; plain = ok.plain }) p.each;
      ascend = arrive_ascending name_order m s.members p.ascend ok.new;
    }
goes s close_roll p f e =
    let filled : eqb (length s.members) 0 ≡ false = (absent (causes s close_roll) e).1.0 in
    record { low = p.low; high = p.high; few = p.few; some = λ _. grind (arith, nat_tests); each = p.each; ascend = p.ascend }

unless_both : {A : Type 0} (P : A → Type 0) (o : Option Refusal) (new old : A) → P old → (o ≡ None → P new) → P (unless o new old)
unless_both P None new old p q = q refl
unless_both P (Some r) new old p q = p

solid : (h : List Call) → Fair h → Solid (after h)
solid [] f = record { low = omega arith; high = omega arith; few = omega arith; some = λ e. absurd (let z : ◌≡◌ {A = ℕ} 0 1 = cc in omega arith); each = tt; ascend = tt }
solid (c ∷ h) f = unless_both Solid (refusal (after h) c) (accepted (after h) c) (after h) (solid h f.1) (goes (after h) c (solid h f.1) f.0)

each_of : (P : Member → Type 0) → ((m : Member) → Enlisted m → P m) → (ms : List Member) → All Enlisted ms → EachMember P ms
each_of P says ms all k d l = says (get_or ms k d) (All-get_or Enlisted ms k d l all)

bounded : (s : State) → Solid s → Bounded s
bounded s p = record {
  multiplier_low = p.low;
  multiplier_high = p.high;
  members_few = p.few;
  members_some = p.some;
  contributions_low = each_of (λ m. 1 ≤ m.contribution) (λ m q. q.low) s.members p.each;
  contributions_high = each_of (λ m. m.contribution ≤ 25000000) (λ m q. q.high) s.members p.each;
  names_eight = each_of (λ m. length m.name.bytes ≡ 8) (λ m q. q.eight) s.members p.each;
  names_plain = each_of (λ m. is_plain m.name.bytes ≡ true) (λ m q. q.plain) s.members p.each;
  names_ascend = ascending_at name_order s.members p.ascend;
}

-- ---- who is on the roll

joins : (s : State) (c : Call) (ms : List Member) → IsPermutation ms s.members → IsPermutation (joined c ms) (accepted s c).members
joins s (multiplier x) ms same = same
joins s (enrol m) ms same = IsPermutation-trans _ (m ∷ s.members) _ (IsPermutation-cons m _ _ same) (arrive_same by_name m s.members)
joins s close_roll ms same = same

unless_joins : (o : Option Refusal) (new old : List Member) (s t : State) → IsPermutation new s.members → IsPermutation old t.members → IsPermutation (unless o new old) (unless o s t).members
unless_joins None new old s t p q = p
unless_joins (Some r) new old s t p q = q

roll : (h : List Call) → IsPermutation (enrolled h) (after h).members
roll [] = IsPermutation-refl []
roll (c ∷ h) = unless_joins (refusal (after h) c) _ _ (accepted (after h) c) (after h) (joins (after h) c (enrolled h) (roll h)) (roll h)

-- ---- the law

pub every_list : EveryList
every_list h fairly = record { bounded = bounded (after h) (solid h fairly); roll = roll h }

pub lawful : {s : State} → Came s → Lawful s
lawful came = ∥∥₁_map came (λ p. (p.0, (p.1.0, (p.1.1, every_list p.0 p.1.0))))

bounded_prop : (s : State) → IsProp (Bounded s)
bounded_prop s p q = λ i. record {
  multiplier_low = le_prop p.multiplier_low q.multiplier_low i;
  multiplier_high = le_prop p.multiplier_high q.multiplier_high i;
  members_few = le_prop p.members_few q.members_few i;
  members_some = λ e. le_prop (p.members_some e) (q.members_some e) i;
  contributions_low = λ k d l. le_prop (p.contributions_low k d l) (q.contributions_low k d l) i;
  contributions_high = λ k d l. le_prop (p.contributions_high k d l) (q.contributions_high k d l) i;
  names_eight = λ k d l. ℕ_set _ _ (p.names_eight k d l) (q.names_eight k d l) i;
  names_plain = λ k d l. Bool-set _ _ (p.names_plain k d l) (q.names_plain k d l) i;
  names_ascend = λ a b d l. Bool-set _ _ (p.names_ascend a b d l) (q.names_ascend a b d l) i;
}

-- every record keeps the limits
pub bounded_of : (s : State) → Came s → Bounded s
bounded_of = of_came Bounded bounded_prop (λ h f. (every_list h f).bounded)
