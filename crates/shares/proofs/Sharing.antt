-- The laws of running shares, proved. Only those of `dealt` open its definition.
use Rattle.std.proofs.Common.{◌≡◌, ℕ, zero, suc, ◌+◌, ◌*◌, ◌/◌, ◌≤◌, sym, refl, ap, ◌∙◌, mul-le-mul_right, mul_comm, mul-le-mul_left, mul-zero, zero-mul, mul-add, div-mul-le_self, mul-div_cancel, arith}
use native.Mathlib.Nat.{zero-div, add-mul-div_right, mul-div_cancel_left, div-le_of_le-mul}
use Rattle.std.proofs.lemmas.Nat.{le-div}
use Rattle.shares.specs.Sums.{total}
use Rattle.shares.specs.Shares.{dealt, share}
use Rattle.shares.specs.Laws.{DealtNone, DealtRises, DealtWithin, DealtWhole, DealtOfBase, ShareAdds, SharesAddUp, SharesWhole, ShareWithin, ShareBaseless, ShareWeightless, ShareOfNone, ShareOfBase, ShareSame}
use Rattle.shares.proofs.Totals.{total_more, total_same}

div_mono : (m n b : ℕ) → m ≤ n → m / suc b ≤ n / suc b
div_mono m n b h = le-div (m / suc b) n (suc b) (omega arith) (omega (arith, div-mul-le_self m (suc b)))

pub dealt_none : DealtNone
unfolding dealt
dealt_none amount zero = refl
dealt_none amount (suc b) = rw mul-zero (zero-div (suc b))

pub dealt_rises : DealtRises
unfolding dealt
dealt_rises amount zero low high h = omega arith
dealt_rises amount (suc b) low high h = div_mono (amount * low) (amount * high) b (mul-le-mul_left amount h)

pub dealt_within : DealtWithin
unfolding dealt
dealt_within amount zero sum h = omega arith
dealt_within amount (suc b) sum h = div-le_of_le-mul (suc b) (omega (arith, mul-le-mul_left amount h, mul_comm amount (suc b)))

pub dealt_whole : DealtWhole
unfolding dealt
dealt_whole amount zero h = absurd (omega arith)
dealt_whole amount (suc b) h = mul-div_cancel amount h

pub dealt_of_base : DealtOfBase
unfolding dealt
dealt_of_base zero sum h = absurd (omega arith)
dealt_of_base (suc b) sum h = mul-div_cancel_left sum {n = suc b} h

-- On base 0 nothing goes out.
pub dealt_baseless : (amount sum : ℕ) → dealt amount 0 sum ≡ 0
unfolding dealt
dealt_baseless amount sum = refl

-- Of an amount of 0 nothing goes out.
pub dealt_of_none : (base sum : ℕ) → dealt 0 base sum ≡ 0
unfolding dealt
dealt_of_none zero sum = refl
dealt_of_none (suc b) sum = rw zero-mul (zero-div (suc b))

-- Where the amount is at most the base, a weight adds no more than itself.
pub dealt-step : (amount base sum weight : ℕ) → amount ≤ base → dealt amount base (sum + weight) ≤ dealt amount base sum + weight
unfolding dealt
dealt-step amount zero sum weight h = omega arith
dealt-step amount (suc b) sum weight h =
    let more : amount * weight ≤ weight * suc b = omega (arith, mul-le-mul_right weight h, mul_comm (suc b) weight) in
    let up : amount * (sum + weight) / suc b ≤ (amount * sum + weight * suc b) / suc b =
    div_mono (amount * (sum + weight)) (amount * sum + weight * suc b) b (omega (arith, mul-add amount sum weight)) in
    omega (arith, add-mul-div_right (amount * sum) weight {z = suc b} (omega arith))

-- Weights that sum to the whole base get the whole amount, on base 0 too if the amount is at most the base.
pub dealt_full : (amount base : ℕ) → amount ≤ base → dealt amount base base ≡ amount
dealt_full amount zero h = omega (arith, dealt_baseless amount 0)
dealt_full amount (suc b) h = dealt_whole amount (suc b) (omega arith)

pub share_adds : ShareAdds
unfolding share
share_adds amount base w a =
    omega (arith, dealt_rises amount base (total a w) (total (a + 1) w) (omega (arith, total_more a w)))

-- The share of a weight behind a sum, whatever row it stands in.
pub share-behind : (amount base before weight : ℕ) (w : ℕ → ℕ) (a : ℕ) → total a w ≡ before → w a ≡ weight →
    dealt amount base before + share amount base w a ≡ dealt amount base (before + weight)
share-behind amount base before weight w a sum here =
    let after : total (a + 1) w ≡ total a w + weight = omega (arith, total_more a w) in
    rw (← sum) (share_adds amount base w a ∙ ap (dealt amount base) after)

pub shares_add_up : SharesAddUp
unfolding total
shares_add_up amount base w zero = sym (dealt_none amount base)
shares_add_up amount base w (suc n) =
    omega (arith, shares_add_up amount base w n, share_adds amount base w n, ap (dealt amount base) (total_more n w))

pub shares_whole : SharesWhole
shares_whole amount base w n some sum =
    shares_add_up amount base w n ∙ ap (dealt amount base) sum ∙ dealt_whole amount base some

-- The same on any base that the weights total, 0 too, if the amount is at most the base.
pub shares_full : (amount : ℕ) (w : ℕ → ℕ) (n : ℕ) → amount ≤ total n w → total n (share amount (total n w) w) ≡ amount
shares_full amount w n h = shares_add_up amount (total n w) w n ∙ dealt_full amount (total n w) h

pub share_within : ShareWithin
share_within amount base w a h =
    omega (arith, share-behind amount base (total a w) (w a) w a refl refl, dealt-step amount base (total a w) (w a) h)

-- No share passes the amount where the weights are within the base.
pub share_at_most : (amount base : ℕ) (w : ℕ → ℕ) (a : ℕ) → total (a + 1) w ≤ base → share amount base w a ≤ amount
share_at_most amount base w a h = omega (arith, share_adds amount base w a, dealt_within amount base (total (a + 1) w) h)

pub share_baseless : ShareBaseless
share_baseless amount w a = omega (arith, share_adds amount 0 w a, dealt_baseless amount (total (a + 1) w))

pub share_weightless : ShareWeightless
share_weightless amount base w a none =
    let same : total (a + 1) w ≡ total a w = omega (arith, total_more a w) in
    omega (arith, share_adds amount base w a, ap (dealt amount base) same)

pub share_of_none : ShareOfNone
share_of_none base w a = omega (arith, share_adds 0 base w a, dealt_of_none base (total (a + 1) w))

pub share_same : ShareSame
unfolding share
share_same amount base v w n same a h =
    let more : total (a + 1) v ≡ total (a + 1) w = total_same (a + 1) v w (λ k l. same k (omega arith)) in
    let less : total a v ≡ total a w = total_same a v w (λ k l. same k (omega arith)) in
    rw (more, less)

pub share_of_base : ShareOfBase
share_of_base zero w a h = omega (arith, share_baseless 0 w a)
share_of_base (suc b) w a h =
    omega (arith, share_adds (suc b) (suc b) w a, total_more a w, dealt_of_base (suc b) (total a w) (omega arith), dealt_of_base (suc b) (total (a + 1) w) (omega arith))
