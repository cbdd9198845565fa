-- What it is to rank records, and where an ordered table puts a new one.
use Rattle.std.specs.Prelude.{◌≡◌, ℕ, ◌+◌, ◌<◌, true, false, cond, List, [], ◌∷◌, ◌++◌, length, Some, None, Option, slice_index_or}
use Rattle.std.specs.declared.cmp.Ordering.TheVariants.{Less, Equal}
use Rattle.std.specs.declared.cmp.Ordering.{Ordering}
use Rattle.std.specs.Option.{option_map}
use Rattle.std.specs.Ordering.{is_eq, is_lt, is_gt, ordering_reverse}
use Rattle.std.specs.List.Sorted.{IsPermutation}

-- `cmp x y` is Less where x stands before y, Equal where they are level, Greater where x stands after y:
-- one answer, so exactly one of the three holds
pub record TotalOrder {X : Type 0} (cmp : X → X → Ordering) : Type 0 where
  -- y stands after x where x stands before y, and level goes both ways
  pub turned : (x y : X) → cmp x y ≡ ordering_reverse (cmp y x)
  -- before is shared along a chain
  pub before : (x y z : X) → cmp x y ≡ Less → cmp y z ≡ Less → cmp x z ≡ Less
  -- and so is level
  pub level : (x y z : X) → cmp x y ≡ Equal → cmp y z ≡ Equal → cmp x z ≡ Equal

-- the table after the arrival of x: x goes in front of the first record that it stands before
abbrev pub arrive : {X : Type 0} → (X → X → Ordering) → X → List X → List X
arrive cmp x [] = x ∷ []
arrive cmp x (y ∷ ys) = cond (is_lt (cmp x y)) (x ∷ y ∷ ys) (y ∷ arrive cmp x ys)

-- how many records x goes behind
abbrev pub behind : {X : Type 0} → (X → X → Ordering) → X → List X → ℕ
behind cmp x [] = 0
behind cmp x (y ∷ ys) = cond (is_lt (cmp x y)) 0 (behind cmp x ys + 1)

-- the place of the first record that is level with x
abbrev pub found : {X : Type 0} → (X → X → Ordering) → X → List X → Option ℕ
found cmp x [] = None
found cmp x (y ∷ ys) = cond (is_eq (cmp x y)) (Some 0) (option_map (λ n. n + 1) (found cmp x ys))

-- what is found is level with x, and nothing in front of it is; where nothing is found, nothing is level with x
abbrev pub FirstLevel : {X : Type 0} → (X → X → Ordering) → X → List X → Option ℕ → Type 0
FirstLevel {X} cmp x xs None = (k : ℕ) (d : X) → k < length xs → is_eq (cmp x (slice_index_or xs k d)) ≡ false
FirstLevel {X} cmp x xs (Some i) =
    (i < length xs) × (((d : X) → is_eq (cmp x (slice_index_or xs i d)) ≡ true) × ((k : ℕ) (d : X) → k < i → is_eq (cmp x (slice_index_or xs k d)) ≡ false))

-- of any two records the one in front does not stand after the one behind
abbrev pub InOrder : {X : Type 0} → (X → X → Ordering) → List X → Type 0
InOrder {X} cmp xs = (i j : ℕ) (d : X) → (i < j) × (j < length xs) → is_gt (cmp (slice_index_or xs i d) (slice_index_or xs j d)) ≡ false

-- the records level with z, in the order in which they stand
abbrev pub level_with : {X : Type 0} → (X → X → Ordering) → X → List X → List X
level_with cmp z [] = []
level_with cmp z (y ∷ ys) = cond (is_eq (cmp z y)) (y ∷ level_with cmp z ys) (level_with cmp z ys)

-- what the arrival of x makes of a table
pub record Arrived {X : Type 0} (cmp : X → X → Ordering) (x : X) (old new : List X) : Type 0 where
  pub is : new ≡ arrive cmp x old
  -- it stays in order
  pub in_order : InOrder cmp old → InOrder cmp new
  -- it holds what it held, and x
  pub same : IsPermutation (x ∷ old) new
  pub more : length new ≡ length old + 1
  -- those level with a record stand as they stood, and x behind them where it is one of them
  pub stable : InOrder cmp old → (z : X) → level_with cmp z new ≡ level_with cmp z old ++ level_with cmp z (x ∷ [])

-- a table after a run of arrivals, the first of them first
abbrev pub arrivals : {X : Type 0} → (X → X → Ordering) → List X → List X → List X
arrivals cmp t [] = t
arrivals cmp t (x ∷ xs) = arrivals cmp (arrive cmp x t) xs

-- an empty table holds what arrived, in order of rank, and level records as they came
pub record Keeps {X : Type 0} (cmp : X → X → Ordering) (xs : List X) : Type 0 where
  pub in_order : InOrder cmp (arrivals cmp [] xs)
  pub same : IsPermutation xs (arrivals cmp [] xs)
  pub stable : (z : X) → level_with cmp z (arrivals cmp [] xs) ≡ level_with cmp z xs
