-- Numbers as bytes.
use Rattle.std.proofs.Common.{◌≡◌, ℕ, zero, suc, ◌+◌, ◌*◌, ◌/◌, ◌%◌, ◌^◌, ◌<◌, ◌≤◌, List, [], ◌∷◌, ◌++◌, length, get_or, take, sym, refl, ap, ◌∙◌, pow-suc, add-one, arith}
use Rattle.std.proofs.lemmas.Int.Digits.{number_push, number_more}
use Rattle.std.proofs.ByRecursion.{All-get_or}
use Rattle.std.proofs.lemmas.List.{take_more}
use Rattle.std.specs.Int.Digits.{AllBelowBase}
use Rattle.callfile.specs.Numbers.{number_of, in_bytes}

pub number_two : (a b : ℕ) → number_of (a ∷ b ∷ []) ≡ a * 256 + b
number_two a b = omega arith

-- four and eight bytes by their weights
-- a number in bytes enough is that number
pub number_in : (k n : ℕ) → n < 256 ^ k → number_of (in_bytes k n) ≡ n
number_in zero n h = omega arith
number_in (suc k) n h =
    let p : n / 256 < 256 ^ k = omega (arith, pow-suc 256 k) in
    let e = number_in k (n / 256) p in
    number_push 256 (in_bytes k (n / 256)) (n % 256) ∙ (ap (λ m. m * 256 + n % 256) e ∙ omega arith)

-- the number of bytes is those bytes again
pub in_number : (k : ℕ) (bs : List ℕ) → k ≤ length bs → AllBelowBase 256 bs → in_bytes k (number_of (take k bs)) ≡ take k bs
in_number zero bs h u = refl
in_number (suc k) bs h u =
    let b : get_or bs k 0 < 256 = All-get_or (λ d. d < 256) bs k 0 (omega arith) u in
    let m : number_of (take (suc k) bs) ≡ number_of (take k bs) * 256 + get_or bs k 0 = rw add-one at (number_more 256 bs k (omega arith)) in
    let t : take (suc k) bs ≡ take k bs ++ (get_or bs k 0 ∷ []) = rw add-one at (take_more bs k 0 (omega arith)) in
    let q : number_of (take (suc k) bs) / 256 ≡ number_of (take k bs) = omega arith in
    let r : number_of (take (suc k) bs) % 256 ≡ get_or bs k 0 = omega arith in
    ap (λ n. in_bytes k n ++ (number_of (take (suc k) bs) % 256 ∷ [])) q
    ∙ (ap (λ d. in_bytes k (number_of (take k bs)) ++ (d ∷ [])) r
    ∙ (ap (λ x. x ++ (get_or bs k 0 ∷ [])) (in_number k bs (omega arith) u) ∙ sym t))
