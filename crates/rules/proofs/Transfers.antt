-- The transfers of a round add up to what goes of its price to the offer.
use Rattle.std.proofs.Common.{◌≡◌, ℕ, zero, suc, ◌≤◌, ℤ, pos, negsuc, nat_abs, refl, ap, ◌∙◌, arith}
use borrow.Author.Differences.{ints}
use Rattle.shares.specs.Sums.{total}
use Rattle.shares.specs.Shares.{dealt, share}
use Rattle.shares.proofs.Sharing.{shares_add_up, dealt_whole, share_weightless}
use Rattle.rules.specs.Amounts.{total_z, signed_as}
use Rattle.rules.specs.Minimums.{all_parts}
use Rattle.rules.specs.Rounds.{Round, Sound, allotment, round_price, transfer}
use Rattle.rules.specs.RoundLaws.{TransfersAddUp}
use Rattle.rules.proofs.Dividing.{offer_allotted}

-- the sign may be put back before the sum or after it
pub total_signed : (p : ℤ) (n : ℕ) (f : ℕ → ℕ) → total_z n (λ a. signed_as p (f a)) ≡ signed_as p (total n f)
unfolding total total_z
total_signed (pos p) zero f = refl
total_signed (pos p) (suc n) f = omega (arith, ints, total_signed (pos p) n f)
total_signed (negsuc p) zero f = refl
total_signed (negsuc p) (suc n) f = omega (arith, ints, total_signed (negsuc p) n f)

-- a price is its size with its sign
pub signed_back : (p : ℤ) → signed_as p (nat_abs p) ≡ p
signed_back (pos p) = refl
signed_back (negsuc p) = refl

pub signed_none : (p : ℤ) → signed_as p 0 ≡ pos 0
signed_none (pos p) = refl
signed_none (negsuc p) = refl

module _ (r : Round) (sound : Sound r) (q : ℕ) (h : q ≤ all_parts) where
  together : total_z r.members (transfer r q) ≡ signed_as (round_price r q) (dealt (nat_abs (round_price r q)) all_parts q)
  together =
      let p = round_price r q in
      total_signed p r.members (share (nat_abs p) all_parts (allotment r q))
      ∙ ap (signed_as p) (shares_add_up (nat_abs p) all_parts (allotment r q) r.members ∙ ap (dealt (nat_abs p) all_parts) (offer_allotted r sound q h))

pub transfers_add_up : TransfersAddUp
transfers_add_up r sound q h =
    let p = round_price r q in
    record {
      sum = together r sound q h;
      full = λ e. together r sound q h ∙ ap (λ n. signed_as p (dealt (nat_abs p) all_parts n)) e ∙ ap (signed_as p) (dealt_whole (nat_abs p) all_parts (omega arith)) ∙ signed_back p;
      none = λ a e. ap (signed_as p) (share_weightless (nat_abs p) all_parts (allotment r q) a e) ∙ signed_none p;
    }
