-- The number that eight bytes make spells them again.
use Rattle.std.proofs.Common.{◌≡◌, ℕ, ◌+◌, ◌*◌, ◌/◌, ◌%◌, ◌<◌, List, [], ◌∷◌, length, get_or, arith}
use Rattle.rules.specs.Names.{spelling}

eight : (n a b c d e f g i : ℕ) → a < 256 → b < 256 → c < 256 → d < 256 → e < 256 → f < 256 → g < 256 → i < 256 →
    n ≡ a * 72057594037927936 + b * 281474976710656 + c * 1099511627776 + d * 4294967296 + e * 16777216 + f * 65536 + g * 256 + i →
    spelling n ≡ a ∷ b ∷ c ∷ d ∷ e ∷ f ∷ g ∷ i ∷ []
eight n a b c d e f g i ha hb hc hd he hf hg hi same =
    let pa : n / 72057594037927936 % 256 ≡ a = omega arith in
    let pb : n / 281474976710656 % 256 ≡ b = omega arith in
    let pc : n / 1099511627776 % 256 ≡ c = omega arith in
    let pd : n / 4294967296 % 256 ≡ d = omega arith in
    let pe : n / 16777216 % 256 ≡ e = omega arith in
    let pf : n / 65536 % 256 ≡ f = omega arith in
    let pg : n / 256 % 256 ≡ g = omega arith in
    let pi : n % 256 ≡ i = omega arith in
    cc

pub spelled_back : (bs : List ℕ) (n : ℕ) → length bs ≡ 8 → ((k : ℕ) → k < 8 → get_or bs k 0 < 256) →
    n ≡ get_or bs 0 0 * 72057594037927936 + get_or bs 1 0 * 281474976710656 + get_or bs 2 0 * 1099511627776 + get_or bs 3 0 * 4294967296 + get_or bs 4 0 * 16777216 + get_or bs 5 0 * 65536 + get_or bs 6 0 * 256 + get_or bs 7 0 →
    spelling n ≡ bs
spelled_back [] n h u e = absurd (omega arith)
spelled_back (a ∷ []) n h u e = absurd (omega arith)
spelled_back (a ∷ b ∷ []) n h u e = absurd (omega arith)
spelled_back (a ∷ b ∷ c ∷ []) n h u e = absurd (omega arith)
spelled_back (a ∷ b ∷ c ∷ d ∷ []) n h u e = absurd (omega arith)
spelled_back (a ∷ b ∷ c ∷ d ∷ p ∷ []) n h u e = absurd (omega arith)
spelled_back (a ∷ b ∷ c ∷ d ∷ p ∷ f ∷ []) n h u e = absurd (omega arith)
spelled_back (a ∷ b ∷ c ∷ d ∷ p ∷ f ∷ g ∷ []) n h u e = absurd (omega arith)
spelled_back (a ∷ b ∷ c ∷ d ∷ p ∷ f ∷ g ∷ i ∷ []) n h u e =
    eight n a b c d p f g i (u 0 (omega arith)) (u 1 (omega arith)) (u 2 (omega arith)) (u 3 (omega arith)) (u 4 (omega arith)) (u 5 (omega arith)) (u 6 (omega arith)) (u 7 (omega arith)) e
spelled_back (a ∷ b ∷ c ∷ d ∷ p ∷ f ∷ g ∷ i ∷ j ∷ bs) n h u e = absurd (omega arith)
