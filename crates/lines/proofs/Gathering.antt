-- Lines that are gathered in order, cut into rows.
use Rattle.std.proofs.Common.{◌≡◌, ℕ, zero, suc, ◌+◌, ◌*◌, ◌<◌, List, [], ◌++◌, sym, refl, ap, ◌∙◌, append_assoc, append-nil, add-zero, add-suc, suc-mul, zero-mul, arith}
use Rattle.lines.specs.Statement.{gathered}

pub gathered_same : (n : ℕ) (f g : ℕ → List (List ℕ)) → ((i : ℕ) → i < n → f i ≡ g i) → gathered n f ≡ gathered n g
unfolding gathered
gathered_same zero f g h = refl
gathered_same (suc n) f g h =
    let front = gathered_same n f g (λ i l. h i (omega arith)) in
    let last = h n (omega arith) in
    cc

pub gathered_none : (n : ℕ) (f : ℕ → List (List ℕ)) → ((i : ℕ) → i < n → f i ≡ []) → gathered n f ≡ []
unfolding gathered
gathered_none zero f h = refl
gathered_none (suc n) f h =
    let front = gathered_none n f (λ i l. h i (omega arith)) in
    let last = h n (omega arith) in
    ap (λ z. z ++ f n) front ∙ last

-- so many, and then so many more
pub gathered-add : (m n : ℕ) (f : ℕ → List (List ℕ)) → gathered (m + n) f ≡ gathered m f ++ gathered n (λ i. f (m + i))
unfolding gathered
gathered-add m zero f = ap (λ k. gathered k f) (add-zero m) ∙ sym (append-nil (gathered m f))
gathered-add m (suc n) f =
    ap (λ k. gathered k f) (add-suc m n)
    ∙ (ap (λ z. z ++ f (m + n)) (gathered-add m n f) ∙ append_assoc (gathered m f) (gathered n (λ i. f (m + i))) (f (m + n)))

-- m rows of n
pub gathered-mul : (m n : ℕ) (f : ℕ → List (List ℕ)) → gathered (m * n) f ≡ gathered m (λ a. gathered n (λ b. f (a * n + b)))
unfolding gathered
gathered-mul zero n f = ap (λ k. gathered k f) (zero-mul n)
gathered-mul (suc m) n f =
    ap (λ k. gathered k f) (suc-mul m n)
    ∙ (gathered-add (m * n) n f ∙ ap (λ z. z ++ gathered n (λ i. f (m * n + i))) (gathered-mul m n f))
