-- Laws of `total`.
use Rattle.std.proofs.Common.{◌≡◌, ℕ, zero, suc, ◌+◌, ◌-◌, ◌*◌, ◌<◌, ◌≤◌, min, cond, eqb, refl, ap, ◌∙◌, inl, inr, suc-mul, add-mul, add-one, arith}
use Rattle.std.proofs.lemmas.Bool.{cases_lt}
use Rattle.std.proofs.lemmas.Bool.Decides.{nat_tests}
use Rattle.shares.specs.Sums.{total}

pub total_none : (f : ℕ → ℕ) → total 0 f ≡ 0
unfolding total
total_none f = refl

-- One more.
pub total_more : (i : ℕ) (f : ℕ → ℕ) → total (i + 1) f ≡ total i f + f i
unfolding total
total_more i f = ap (λ n. total n f) (add-one i)

-- The first apart from the rest.
pub total_first : (n : ℕ) (f : ℕ → ℕ) → total (suc n) f ≡ f 0 + total n (λ a. f (suc a))
unfolding total
total_first zero f = omega arith
total_first (suc n) f = omega (arith, total_first n f)

pub total_same : (n : ℕ) (f g : ℕ → ℕ) → ((a : ℕ) → a < n → f a ≡ g a) → total n f ≡ total n g
unfolding total
total_same zero f g h = refl
total_same (suc n) f g h = omega (arith, total_same n f g (λ a l. h a (omega arith)), h n (omega arith))

pub total_plus : (n : ℕ) (f g : ℕ → ℕ) → total n (λ a. f a + g a) ≡ total n f + total n g
unfolding total
total_plus zero f g = refl
total_plus (suc n) f g = omega (arith, total_plus n f g)

pub total-minus : (n : ℕ) (f g : ℕ → ℕ) → ((a : ℕ) → a < n → f a ≤ g a) → total n (λ a. g a - f a) + total n f ≡ total n g
unfolding total
total-minus zero f g h = refl
total-minus (suc n) f g h = omega (arith, total-minus n f g (λ a l. h a (omega arith)), h n (omega arith))

pub total_times : (n : ℕ) (f : ℕ → ℕ) (k : ℕ) → total n (λ a. f a * k) ≡ total n f * k
unfolding total
total_times zero f k = omega arith
total_times (suc n) f k = omega (arith, total_times n f k, add-mul (total n f) (f n) k)

-- Each at most another: so is the sum.
pub total-le : (n : ℕ) (f g : ℕ → ℕ) → ((a : ℕ) → a < n → f a ≤ g a) → total n f ≤ total n g
total-le n f g h = omega (arith, total-minus n f g h)

-- The sum does not fall with more summands.
pub total_grows : (i n : ℕ) (f : ℕ → ℕ) → i ≤ n → total i f ≤ total n f
unfolding total
total_grows i zero f h = let e : i ≡ 0 = omega arith in rw e (omega arith)
total_grows i (suc n) f h =
    elim (cases_lt n i) [ inl l ↦ (let e : i ≡ suc n = omega arith in rw e (omega arith)) | inr l ↦ omega (arith, total_grows i n f l) ]

-- No summand passes the sum.
pub total_within : (n : ℕ) (f : ℕ → ℕ) (a : ℕ) → a < n → f a ≤ total n f
total_within n f a h = omega (arith, total_more a f, total_grows (a + 1) n f (omega arith))

pub total_bound : (n m : ℕ) (f : ℕ → ℕ) → ((a : ℕ) → a < n → f a ≤ m) → total n f ≤ n * m
unfolding total
total_bound zero m f h = omega arith
total_bound (suc n) m f h = omega (arith, total_bound n m f (λ a l. h a (omega arith)), h n (omega arith), suc-mul n m)

-- With each at most t, the sum still reaches t or what it was.
pub total_capped : (n t : ℕ) (f : ℕ → ℕ) → min t (total n f) ≤ total n (λ a. min t (f a))
unfolding total
total_capped zero t f = omega arith
total_capped (suc n) t f = omega (arith, total_capped n t f)

-- Nothing is added past i.
pub total_tail : (i n : ℕ) (f : ℕ → ℕ) → i ≤ n → ((a : ℕ) → i ≤ a → a < n → f a ≡ 0) → total n f ≡ total i f
unfolding total
total_tail i zero f h none = let e : i ≡ 0 = omega arith in rw e refl
total_tail i (suc n) f h none =
    elim (cases_lt n i) [
      | inl l ↦ (let e : i ≡ suc n = omega arith in rw e refl)
      | inr l ↦ omega (arith, total_tail i n f l (λ a p q. none a p (omega arith)), none n l (omega arith))
    ]

pub total-zero : (n : ℕ) (f : ℕ → ℕ) → ((a : ℕ) → a < n → f a ≡ 0) → total n f ≡ 0
total-zero n f none = omega (arith, total_tail 0 n f (omega arith) (λ a _ l. none a l), total_none f)

-- Where two rows differ at one place alone, their sums differ as they do there.
pub total_change : (n i : ℕ) (f g : ℕ → ℕ) → i < n → ((a : ℕ) → a < n → (a ≡ i → ⊥) → f a ≡ g a) → total n f + g i ≡ total n g + f i
unfolding total
total_change zero i f g h same = absurd (omega arith)
total_change (suc n) i f g h same =
    elim (cases_lt i n) [
      | inl l ↦ omega (arith, total_change n i f g l (λ a k ne. same a (omega arith) ne), same n (omega arith) (λ e. omega arith))
      | inr l ↦ (
          let e : i ≡ n = omega arith in
          let below : total n f ≡ total n g = total_same n f g (λ a k. same a (omega arith) (λ e. omega arith)) in
          rw e (omega arith))
    ]

-- One number at its place.
pub total_one : (n i x : ℕ) → i < n → total n (λ a. cond (eqb i a) x 0) ≡ x
total_one n i x l =
    let f : ℕ → ℕ = λ a. cond (eqb i a) x 0 in
    let none : total n (λ a. 0) ≡ 0 = total-zero n (λ a. 0) (λ a k. refl) in
    omega (arith, total_change n i f (λ a. 0) l (λ a k ne. grind (arith, nat_tests)), here i x)
  where
    here : (i x : ℕ) → cond (eqb i i) x 0 ≡ x
    here i x = grind (arith, nat_tests)

-- Numbers counted at the owner of each add up to the same as all of them.
pub total_by : (m k : ℕ) (who f : ℕ → ℕ) → ((i : ℕ) → i < k → who i < m) → total m (λ a. total k (λ i. cond (eqb (who i) a) (f i) 0)) ≡ total k f
unfolding total
total_by m zero who f h = total-zero m (λ a. 0) (λ a l. refl)
total_by m (suc k) who f h =
    total_plus m (λ a. total k (λ i. cond (eqb (who i) a) (f i) 0)) (λ a. cond (eqb (who k) a) (f k) 0)
    ∙ omega (arith, total_by m k who f (λ i l. h i (omega arith)), total_one m (who k) (f k) (h k (omega arith)))
