-- One turn of a loop that writes a row, place by place.
use Rattle.std.proofs.Common.{◌≡◌, ℕ, ◌+◌, ◌<◌, ◌≤◌, ◌≢◌, List, length, get_or, set, ◌∙◌, arith, get_or-set_other, get_or-set_same, below_more}
use Rattle.shares.specs.Sums.{at}

-- One more place holds what it should, whatever the row is of; d stands for what a place past the end reads as.
pub places_more : {A : Type 0} (d : A) (f : ℕ → A) (row : List A) (i : ℕ) (x : A) → i < length row → x ≡ f i →
    ((a : ℕ) → a < i → get_or row a d ≡ f a) → (a : ℕ) → a < i + 1 → get_or (set row i x) a d ≡ f a
places_more d f row i x within here below =
    below_more (λ a. get_or (set row i x) a d ≡ f a) i
    (λ a h. let ne : a ≢ i = omega arith in get_or-set_other row i a x d ne ∙ below a h)
    (get_or-set_same row i x d within ∙ here)

-- the same of a row of numbers
pub row_more : (f : ℕ → ℕ) (row : List ℕ) (i x : ℕ) → i < length row → x ≡ f i →
    ((a : ℕ) → a < i → at row a ≡ f a) → (a : ℕ) → a < i + 1 → at (set row i x) a ≡ f a
row_more = places_more 0

-- The places past it are as they were.
pub row_rest : (old row : List ℕ) (i x : ℕ) →
    ((a : ℕ) → i ≤ a → at row a ≡ at old a) → (a : ℕ) → i + 1 ≤ a → at (set row i x) a ≡ at old a
row_rest old row i x past a h = let ne : a ≢ i = omega arith in get_or-set_other row i a x 0 ne ∙ past a (omega arith)
