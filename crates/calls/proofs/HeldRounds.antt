-- Every round that a record holds is sound, is divided well, and keeps its limits.
use Rattle.std.proofs.Common.{◌≡◌, ℕ, zero, suc, ◌+◌, ◌*◌, ◌/◌, ◌<◌, ◌≤◌, Bool, true, false, cond, ltb, List, [], ◌∷◌, length, ℤ, pos, negsuc, ◌+ℤ◌, nat_abs, Some, None, Option, refl, ap, subst, mul-le-mul_left, arith}
use borrow.Author.Differences.{up, down, ints}
use Rattle.std.specs.Option.{option_map}
use Rattle.std.specs.List.{AllByRecursion as All}
use Rattle.std.proofs.ByRecursion.{All-get_or}
use Rattle.std.proofs.lemmas.Bool.{ltb-true}
use Rattle.shares.specs.Shares.{dealt}
use Rattle.shares.proofs.Sharing.{dealt_within}
use Rattle.rules.specs.declared.bid.Bid.{Bid}
use Rattle.rules.specs.Amounts.{signed_as}
use Rattle.rules.specs.Minimums.{all_parts}
use Rattle.rules.specs.Rounds.{Round, Sound, no_bid, bid_at, OfMembers, last_given, round_price, givings, market}
use Rattle.rules.specs.Residuals.{cut_reference}
use Rattle.rules.proofs.Best.{book_best}
use Rattle.rules.proofs.Dividing.{offer_allotted}
use Rattle.rules.proofs.Soundness.{first_sound, second_sound}
use Rattle.rules.proofs.Transfers.{transfers_add_up}
use Rattle.calls.specs.declared.round_number.RoundNumber.{RoundNumber}
use Rattle.calls.specs.declared.round_number.RoundNumber.TheVariants.{First, Second}
use Rattle.calls.specs.Packages.{Bidding, Residual, Package, no_package}
use Rattle.calls.specs.State.{State, package_at}
use Rattle.calls.specs.Held.{Held, first_in, second_in, offer_left, first_held, second_held, held_of, held_in, brought_by, brought_later, brought_of, brought_all, brought}
use Rattle.calls.specs.Limits.{KeptBid, KeptBidding, KeptLater, KeptPackage, Bounded}
use Rattle.calls.specs.Laws.{DividedWell, EachStruck}

known_of : (n : ℕ) (r : Bidding) → KeptBidding n r → OfMembers n r.bids
known_of n r k i l = (All-get_or (KeptBid n) r.bids i no_bid l k.each).known

-- a round that a record holds
pub record Solid (h : Held) : Type 0 where
  pub sound : Sound h.round
  pub offered : h.offer ≤ all_parts
  pub price : nat_abs (round_price h.round h.offer) ≤ 10000000000

last_within : (limit : ℕ) (bids : List Bid) (g : ℕ → ℕ) (p : ℤ) → nat_abs p ≤ limit → ((i : ℕ) → i < length bids → nat_abs (bid_at bids i).price ≤ limit) →
    (n : ℕ) → n ≤ length bids → nat_abs (last_given g (λ i. (bid_at bids i).price) p n) ≤ limit
last_within limit bids g p low each zero h = low
last_within limit bids g p low each (suc n) h =
    elim (ltb 0 (g n)) as (λ b. nat_abs (cond b (bid_at bids n).price (last_given g (λ i. (bid_at bids i).price) p n)) ≤ limit)
    [ true ↦ each n (omega arith) | false ↦ last_within limit bids g p low each n (omega arith) ]

price_low : (limit : ℕ) (r : Round) (offer : ℕ) → nat_abs r.reference ≤ limit → ((i : ℕ) → i < length r.bids → nat_abs (bid_at r.bids i).price ≤ limit) → nat_abs (round_price r offer) ≤ limit
unfolding round_price
price_low limit r offer low each = last_within limit r.bids (givings r offer) r.reference low each (length r.bids) (omega arith)

prices_of : (n : ℕ) (r : Bidding) → KeptBidding n r → (i : ℕ) → i < length r.bids → nat_abs (bid_at r.bids i).price ≤ 10000000000
prices_of n r k i l = (All-get_or (KeptBid n) r.bids i no_bid l k.each).price

pub signed_size : (p : ℤ) (n : ℕ) → nat_abs (signed_as p n) ≡ n
signed_size (pos p) n = refl
signed_size (negsuc p) zero = refl
signed_size (negsuc p) (suc n) = refl

millionths_low : (n parts : ℕ) → parts ≤ 1000000 → n * parts / 1000000 ≤ n
millionths_low n parts h = omega (arith, mul-le-mul_left n h)

cut_low : (limit parts : ℕ) (z : ℤ) → parts ≤ 1000000 → nat_abs z ≤ limit → nat_abs (cut_reference parts z) ≤ limit
cut_low limit parts z h low = omega (arith, signed_size z (nat_abs z * parts / 1000000), millionths_low (nat_abs z) parts h)

offer_low : (o : Option Residual) → offer_left o ≤ all_parts
offer_low None = omega arith
offer_low (Some r) = omega arith

module _ (s : State) (b : Bounded s) (p : Package) (k : KeptPackage (length s.members) p) where
  first_sound_of : Sound (first_in s p)
  first_sound_of =
      first_sound s.members s.multiplier p.excused p.margin p.reference p.first.bids
      (λ a l. b.contributions_low a _ l) k.serving b.multiplier_low k.first.in_order (known_of _ p.first k.first)

  pub first_solid : Solid (first_held s p)
  first_solid = record {
    sound = first_sound_of;
    offered = offer_low p.residual;
    price = price_low 10000000000 (first_in s p) (offer_left p.residual) k.price (prices_of _ p.first k.first);
  }

  pub second_solid : (r : Residual) → KeptLater (length s.members) p.first (Some r) → Solid (second_held s p r)
  second_solid r l = record {
    sound = second_sound (first_in s p) first_sound_of r.parts r.second.bids l.3.in_order (known_of _ r.second l.3);
    offered = omega arith;
    price = price_low 10000000000 (second_in s p r) all_parts (cut_low 10000000000 r.parts p.reference (omega (arith, l.1)) k.price) (prices_of _ r.second l.3);
  }

-- ---- each of them

pub cond_some : {A : Type 0} (t : Bool) (o : Option A) (x : A) → cond t o None ≡ Some x → (t ≡ true) × (o ≡ Some x)
cond_some true o x e = (refl, e)
cond_some false o x e = let z : ◌≡◌ {A = ℕ} 0 1 = cc in absurd (omega arith)

module _ (s : State) (b : Bounded s) where
  kept_at : (k : ℕ) → k < length s.packages → KeptPackage (length s.members) (package_at s k)
  kept_at k l = All-get_or (KeptPackage (length s.members)) s.packages k no_package l b.packages_kept

  solid_second : (p : Package) → KeptPackage (length s.members) p → (o : Option Residual) → KeptLater (length s.members) p.first o → (h : Held) → option_map (second_held s p) o ≡ Some h → Solid h
  solid_second p k None l h e = let z : ◌≡◌ {A = ℕ} 0 1 = cc in absurd (omega arith)
  solid_second p k (Some r) l h e =
      let same : second_held s p r ≡ h = cc in
      subst Solid same (second_solid s b p k r l)

  solid_of : (p : Package) → KeptPackage (length s.members) p → (n : RoundNumber) (h : Held) → held_of s p n ≡ Some h → Solid h
  solid_of p k First h e = let same : first_held s p ≡ h = cc in subst Solid same (first_solid s b p k)
  solid_of p k Second h e = solid_second p k p.residual k.later h e

  pub solid_held : (k : ℕ) (n : RoundNumber) (h : Held) → held_in s k n ≡ Some h → Solid h
  solid_held k n h e =
      let c = cond_some (ltb k (length s.packages)) (held_of s (package_at s k) n) h e in
      solid_of (package_at s k) (kept_at k (ltb-true k (length s.packages) c.0)) n h c.1

pub divided_well : (h : Held) → Solid h → DividedWell h
divided_well h k = record {
  whole = offer_allotted h.round k.sound h.offer k.offered;
  best = λ g within same. book_best (market h.round) k.sound.ranked _ g within same;
}

pub each_divided : (s : State) → Bounded s → EachStruck DividedWell s
each_divided s b k n h e struck = divided_well h (solid_held s b k n h e)

-- ---- how much the transfers come to

-- an amount of either sign, at most so far from 0
abbrev pub Small : ℕ → ℤ → Type 0
Small limit z = (up z ≤ down z + limit) × (down z ≤ up z + limit)

pub small_of : (limit : ℕ) (z : ℤ) → nat_abs z ≤ limit → Small limit z
small_of limit (pos n) h = (omega arith, omega arith)
small_of limit (negsuc n) h = (omega arith, omega arith)

small_sum : (x y : ℕ) (a b : ℤ) → Small x a → Small y b → Small (x + y) (a +ℤ b)
small_sum x y a b p q = (omega (arith, ints, p, q), omega (arith, ints, p, q))

brought_small : (h : Held) → Solid h → Small 10000000000 (brought_by h)
brought_small h k =
    let p = round_price h.round h.offer in
    let is = (transfers_add_up h.round k.sound h.offer k.offered).sum in
    small_of 10000000000 (brought_by h)
    (omega (arith, ap nat_abs is, signed_size p (dealt (nat_abs p) all_parts h.offer), dealt_within (nat_abs p) all_parts h.offer k.offered, k.price))

module _ (s : State) (b : Bounded s) where
  later_small : (p : Package) → KeptPackage (length s.members) p → (o : Option Residual) → KeptLater (length s.members) p.first o → Small 10000000000 (brought_later s p o)
  later_small p k None l = (omega arith, omega arith)
  later_small p k (Some r) l = brought_small (second_held s p r) (second_solid s b p k r l)

  one_small : (p : Package) → KeptPackage (length s.members) p → Small 20000000000 (brought_of s p)
  one_small p k =
      small_sum 10000000000 10000000000 (brought_by (first_held s p)) (brought_later s p p.residual) (brought_small (first_held s p) (first_solid s b p k)) (later_small p k p.residual k.later)

  pub package_small : (k : ℕ) → k < length s.packages → Small 20000000000 (brought_of s (package_at s k))
  package_small k l = one_small (package_at s k) (kept_at s b k l)

  all_small : (ps : List Package) → All (KeptPackage (length s.members)) ps → Small (20000000000 * length ps) (brought_all s ps)
  all_small [] all = (omega arith, omega arith)
  all_small (p ∷ ps) all =
      let one = one_small p all.0 in
      let rest = all_small ps all.1 in
      let sum = small_sum 20000000000 (20000000000 * length ps) (brought_of s p) (brought_all s ps) one rest in
      (omega (arith, sum.0), omega (arith, sum.1))

  pub brought_limit : Small 160000000000 (brought s)
  unfolding brought
  brought_limit = let z = all_small s.packages b.packages_kept in (omega (arith, z.0, b.packages_few), omega (arith, z.1, b.packages_few))
