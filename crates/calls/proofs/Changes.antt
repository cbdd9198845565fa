-- A list in which one entry is changed.
use Rattle.std.proofs.Common.{◌≡◌, ℕ, zero, suc, ◌<◌, List, [], ◌∷◌, ◌++◌, map, length, get_or, refl, ap, arith}
use Rattle.std.specs.List.{AllByRecursion as All}
use Rattle.calls.specs.Packages.{changed}

pub length-changed : {A : Type 0} (f : A → A) (xs : List A) (k : ℕ) → length (changed f xs k) ≡ length xs
length-changed f [] k = refl
length-changed f (x ∷ xs) zero = refl
length-changed f (x ∷ xs) (suc k) = ap suc (length-changed f xs k)

pub get_d_changed : {A : Type 0} (f : A → A) (xs : List A) (k : ℕ) (d : A) → k < length xs → get_or (changed f xs k) k d ≡ f (get_or xs k d)
get_d_changed f [] k d h = absurd (omega arith)
get_d_changed f (x ∷ xs) zero d h = refl
get_d_changed f (x ∷ xs) (suc k) d h = get_d_changed f xs k d (omega arith)

pub get_d_unchanged : {A : Type 0} (f : A → A) (xs : List A) (k j : ℕ) (d : A) → (j ≡ k → ⊥) → get_or (changed f xs k) j d ≡ get_or xs j d
get_d_unchanged f [] k j d h = refl
get_d_unchanged f (x ∷ xs) zero zero d h = absurd (h refl)
get_d_unchanged f (x ∷ xs) zero (suc j) d h = refl
get_d_unchanged f (x ∷ xs) (suc k) zero d h = refl
get_d_unchanged f (x ∷ xs) (suc k) (suc j) d h = get_d_unchanged f xs k j d (λ e. h (ap suc e))

pub all_changed : {A : Type 0} (P : A → Type 0) (f : A → A) (xs : List A) (k : ℕ) (d : A) → (P (get_or xs k d) → P (f (get_or xs k d))) → All P xs → All P (changed f xs k)
all_changed P f [] k d step all = tt
all_changed P f (x ∷ xs) zero d step all = (step all.0, all.1)
all_changed P f (x ∷ xs) (suc k) d step all = (all.0, all_changed P f xs k d step all.1)

-- what a change leaves of each entry is left of the list
pub map_changed : {A B : Type 0} (g : A → B) (f : A → A) → ((x : A) → g (f x) ≡ g x) → (xs : List A) (k : ℕ) → map g (changed f xs k) ≡ map g xs
map_changed g f same [] k = refl
map_changed g f same (x ∷ xs) zero = ap (λ y. y ∷ map g xs) (same x)
map_changed g f same (x ∷ xs) (suc k) = ap (λ ys. g x ∷ ys) (map_changed g f same xs k)

pub map_push : {A B : Type 0} (g : A → B) (xs : List A) (x : A) → map g (xs ++ x ∷ []) ≡ map g xs ++ g x ∷ []
map_push g [] x = refl
map_push g (y ∷ xs) x = ap (λ ys. g y ∷ ys) (map_push g xs x)

-- an entry that arrives at the end, by places
pub get_d_push : {A : Type 0} (xs : List A) (x d : A) → get_or (xs ++ x ∷ []) (length xs) d ≡ x
get_d_push [] x d = refl
get_d_push (y ∷ xs) x d = get_d_push xs x d

pub get_d_before : {A : Type 0} (xs : List A) (x d : A) (j : ℕ) → (j ≡ length xs → ⊥) → get_or (xs ++ x ∷ []) j d ≡ get_or xs j d
get_d_before [] x d zero h = absurd (h refl)
get_d_before [] x d (suc j) h = refl
get_d_before (y ∷ xs) x d zero h = refl
get_d_before (y ∷ xs) x d (suc j) h = get_d_before xs x d j (λ e. h (ap suc e))
