-- The rows of a division are those of the round.
use Rattle.std.proofs.Common.{◌≡◌, ℕ, zero, suc, ◌+◌, ◌-◌, ◌<◌, ◌≤◌, min, eqb, List, length, ℤ, pos, ◌+ℤ◌, ◌*ℤ◌, nat_abs, ◌≤ℤ◌, sym, refl, ap, ◌∙◌, subst, arith}
use Rattle.shares.specs.Sums.{at, total}
use Rattle.shares.specs.Shares.{dealt, share}
use Rattle.shares.proofs.Totals.{total_same}
use Rattle.shares.proofs.Sharing.{share_same, share_weightless, share_within}
use Rattle.rules.specs.declared.bid.Bid.{Bid}
use Rattle.rules.specs.Amounts.{when, signed_as, total_z}
use Rattle.rules.specs.Minimums.{all_parts}
use Rattle.rules.specs.Books.{Book, worth, giving}
use Rattle.rules.specs.Rounds.{Round, Sound, bid_at, market_size, market_at, market, of_member, shortfall, shortfalls, bid_filled, givings, bid_parts, shortfall_parts, allotment, last_given, round_price, transfer}
use Rattle.rules.proofs.Best.{giving_best}
use Rattle.rules.proofs.Dividing.{market_covers, offer_allotted}
use Rattle.rules.proofs.Transfers.{transfers_add_up}
use Rattle.auction.specs.declared.division.Division.{Division}
use Rattle.auction.specs.declared.orderly.OrderlyRound.{OrderlyRound}
use Rattle.auction.specs.Divisions.{Balanced, Divided}
use Rattle.auction.specs.Rows.{Low, Row, RowZ, at_z}
use Rattle.auction.specs.Ruled.{offered, ruled_orderly}
use Rattle.auction.proofs.Pricing.{last_same}
use Rattle.auction.proofs.Spreading.{signed_none}
use Rattle.auction.proofs.Showing.{row_same, row_total}

pub sound : (h : OrderlyRound) → Sound (ruled_orderly h)
sound h = record { ranked = h.orderly.ranked; known = h.orderly.known; covered = h.orderly.covered }

-- what the market bids of a member lack, as it is computed
pub lack_is : (h : OrderlyRound) (a own x : ℕ) → own ≡ of_member h.round.bids.now (offered h).size a → x ≡ at h.round.minimums a - own → x ≡ shortfall (ruled_orderly h) a
unfolding shortfall
lack_is h a own x eo ex =
    ex ∙ ap (λ (n : ℕ). at h.round.minimums a - n) (eo ∙ ap (λ (z : ℤ). of_member h.round.bids.now (market_size h.round.bids.now z h.round.margin) a) h.marked)

total_z_same : (n : ℕ) (f g : ℕ → ℤ) → ((a : ℕ) → a < n → f a ≡ g a) → total_z n f ≡ total_z n g
unfolding total_z
total_z_same zero f g same = refl
total_z_same (suc n) f g same =
    ap (λ (z : ℤ). z +ℤ f n) (total_z_same n f g (λ a l. same a (omega arith))) ∙ ap (λ (z : ℤ). total_z n g +ℤ z) (same n (omega arith))

worth_same : (b : Book) (f g : ℕ → ℕ) → ((i : ℕ) → i < b.count → f i ≡ g i) → worth b f ≡ worth b g
worth_same b f g same =
    total_z_same b.count (λ i. pos (f i) *ℤ b.price i) (λ i. pos (g i) *ℤ b.price i) (λ i l. ap (λ (n : ℕ). pos n *ℤ b.price i) (same i l))

member_same : (bids : List Bid) (f g : ℕ → ℕ) (a : ℕ) → ((i : ℕ) → i < length bids → f i ≡ g i) → of_member bids f a ≡ of_member bids g a
member_same bids f g a same =
    total_same (length bids) (λ i. when (eqb (bid_at bids i).member a) (f i)) (λ i. when (eqb (bid_at bids i).member a) (g i))
    (λ i l. ap (λ (n : ℕ). when (eqb (bid_at bids i).member a) n) (same i l))

-- shares of no more than the base are as low as the weights
pub parts_low : (m t short : ℕ) (shorts parts : List ℕ) → t ≤ short → Low m shorts → ((a : ℕ) → at parts a ≡ share t short (at shorts) a) → Low m parts
parts_low m t short shorts parts h low so a l = omega (arith, so a, low a l, share_within t short (at shorts) a h)

module _ (h : OrderlyRound) (offer : ℕ) (shorts givens parts allots : List ℕ) (short n t : ℕ)
    (en : n ≡ offer - short) (em : t ≡ min offer short)
    (es : Row h.round.members (shortfall (ruled_orderly h)) shorts)
    (et : short ≡ total 64 (at shorts))
    (eg : Row (length h.round.bids.now) (giving (offered h) n) givens)
    (ep : (a : ℕ) → at parts a ≡ share t short (at shorts) a)
    (ea : Row h.round.members (λ a. of_member h.round.bids.now (at givens) a + at parts a) allots) where
  abbrev r : Round
  r = ruled_orderly h

  short_is : short ≡ shortfalls r
  short_is = et ∙ row_total h.round.members (shortfall r) shorts es 64 h.orderly.seats

  givens_are : Row (length h.round.bids.now) (givings r offer) givens
  givens_are = row_same (length h.round.bids.now) (giving (offered h) n) givens eg (givings r offer)
      (λ i l. ap (λ (z : ℤ). giving (market_at h.round.bids.now z h.round.margin) n i) h.marked ∙ ap (λ (k : ℕ). giving (market r) k i) (en ∙ ap (λ (k : ℕ). offer - k) short_is))

  parts_are : Row h.round.members (shortfall_parts r offer) parts
  parts_are = record {
    shows = λ a l. ep a ∙ share_same t short (at shorts) (shortfall r) h.round.members es.shows a l
        ∙ ap (λ (k : ℕ). share k short (shortfall r) a) em ∙ ap (λ (k : ℕ). share (min offer k) k (shortfall r) a) short_is;
    blank = λ a l. ep a ∙ share_weightless t short (at shorts) a (es.blank a l);
  }

  allots_are : Row h.round.members (allotment r offer) allots
  unfolding allotment
  allots_are = row_same h.round.members (λ a. of_member h.round.bids.now (at givens) a + at parts a) allots ea (allotment r offer)
      (λ a l. ap (λ (k : ℕ). k + at parts a) (member_same h.round.bids.now (at givens) (givings r offer) a givens_are.shows) ∙ ap (λ (k : ℕ). bid_parts r offer a + k) (parts_are.shows a l))

  pub whole_is : offer ≤ all_parts → total 64 (at allots) ≡ offer
  whole_is low = row_total h.round.members (allotment r offer) allots allots_are 64 h.orderly.seats ∙ offer_allotted r (sound h) offer low

  module _ (low : offer ≤ all_parts) (price : ℤ) (pays : List ℤ)
      (ez : price ≡ last_given (at givens) (λ i. (bid_at h.round.bids.now i).price) h.round.reference (length h.round.bids.now))
      (ey : (a : ℕ) → at_z pays a ≡ signed_as price (share (nat_abs price) all_parts (at allots) a)) where
    abbrev d : Division
    d = record { givings = givens; price = price; shortfalls = shorts; shortfall_parts = parts; allotments = allots; transfers = pays }

    price_is : price ≡ round_price r offer
    unfolding round_price
    price_is = ez ∙ last_same (at givens) (λ i. (bid_at h.round.bids.now i).price) h.round.reference (givings r offer) (length h.round.bids.now) givens_are.shows

    pays_are : RowZ h.round.members (transfer r offer) pays
    pays_are = record {
      shows = λ a l. ey a
          ∙ ap (λ (k : ℕ). signed_as price k) (share_same (nat_abs price) all_parts (at allots) (allotment r offer) h.round.members allots_are.shows a l)
          ∙ ap (λ (z : ℤ). signed_as z (share (nat_abs z) all_parts (allotment r offer) a)) price_is;
      blank = λ a l. ey a ∙ ap (λ (k : ℕ). signed_as price k) (share_weightless (nat_abs price) all_parts (at allots) a (allots_are.blank a l)) ∙ signed_none price;
    }

    divided : Divided r offer d
    divided = record { given = givens_are; priced = price_is; short = es; covered = parts_are; allotted = allots_are; paid = pays_are }

    worths : worth (market r) (givings r offer) ≡ worth (market r) (at givens)
    worths = sym (worth_same (market r) (at givens) (givings r offer) givens_are.shows)

    filled_is : total (length h.round.bids.now) (at givens) ≡ bid_filled r offer
    filled_is = total_same (length h.round.bids.now) (at givens) (givings r offer) givens_are.shows ∙ (market_covers r (sound h) offer low).whole

    pays_sum : total_z h.round.members (at_z pays) ≡ total_z h.round.members (transfer r offer)
    pays_sum = total_z_same h.round.members (at_z pays) (transfer r offer) pays_are.shows

    balanced : Balanced r offer d
    balanced = record {
      whole = total_same h.round.members (at allots) (allotment r offer) allots_are.shows ∙ offer_allotted r (sound h) offer low;
      filled = filled_is;
      within = λ i l. omega (arith, givens_are.shows i l, (market_covers r (sound h) offer low).within i l);
      best = λ g w e. subst (λ (z : ℤ). worth (market r) g ≤ℤ z) worths (giving_best r (sound h) offer low g w (e ∙ filled_is));
      sum = pays_sum ∙ (transfers_add_up r (sound h) offer low).sum ∙ ap (λ (z : ℤ). signed_as z (dealt (nat_abs z) all_parts offer)) (sym price_is);
      full = λ e. pays_sum ∙ (transfers_add_up r (sound h) offer low).full e ∙ sym price_is;
    }

    pub composed : (offer ≤ all_parts) × Divided r offer d × Balanced r offer d
    composed = (low, divided, balanced)
