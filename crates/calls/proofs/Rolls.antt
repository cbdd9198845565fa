-- A roll stays in byte order of name, with no name twice.
use Rattle.std.proofs.Common.{◌≡◌, ℕ, zero, suc, ◌+◌, ◌<◌, Bool, true, false, cond, List, [], ◌∷◌, length, get_or, is_some, Some, None, Option, Ordering, Less, Equal, Greater, refl, ap, ◌∙◌, arith}
use Rattle.std.specs.Option.{option_map}
use Rattle.std.specs.Ordering.{is_eq, is_lt, ordering_reverse}
use Rattle.std.specs.List.{AllByRecursion as All}
use Rattle.std.proofs.ByRecursion.{All-weaker, All-get_or}
use Rattle.ranked.specs.Order.{TotalOrder, arrive, found}
use Rattle.ranked.proofs.Arrivals.{all_arrive}

module _ {X : Type 0} {cmp : X → X → Ordering} (laws : TotalOrder cmp) where
  -- each stands before all behind it
  abbrev pub Ascending : List X → Type 0
  Ascending [] = Unit {0}
  Ascending (x ∷ xs) = All (λ y. cmp x y ≡ Less) xs × Ascending xs

  pub ascending_at : (xs : List X) → Ascending xs → (i j : ℕ) (d : X) → (i < j) × (j < length xs) → is_lt (cmp (get_or xs i d) (get_or xs j d)) ≡ true
  ascending_at [] h i j d l = absurd (omega arith)
  ascending_at (x ∷ xs) h i zero d l = absurd (omega arith)
  ascending_at (x ∷ xs) h zero (suc j) d l = ap is_lt (All-get_or (λ y. cmp x y ≡ Less) xs j d (omega arith) h.0)
  ascending_at (x ∷ xs) h (suc i) (suc j) d l = ascending_at xs h.1 i j d (omega arith, omega arith)

  not_found : (x y : X) (ys : List X) (b : Bool) → is_eq (cmp x y) ≡ b → is_some (cond b (Some 0) (option_map (λ n. n + 1) (found cmp x ys))) ≡ false → (is_eq (cmp x y) ≡ false) × (is_some (found cmp x ys) ≡ false)
  not_found x y ys true e h = absurd (let z : ◌≡◌ {A = Bool} true false = h in let w : ◌≡◌ {A = ℕ} 0 1 = cc in omega arith)
  not_found x y ys false e h = (e, none (found cmp x ys) h)
    where
      none : (o : Option ℕ) → is_some (option_map (λ n. n + 1) o) ≡ false → is_some o ≡ false
      none None k = refl
      none (Some n) k = k

  -- who stands neither before another nor level with it stands after it
  stands_after : (x y : X) (o : Ordering) → cmp x y ≡ o → is_eq o ≡ false → is_lt o ≡ false → cmp y x ≡ Less
  stands_after x y Less e h k = cc
  stands_after x y Equal e h k = cc
  stands_after x y Greater e h k = laws.turned y x ∙ ap ordering_reverse e

  less_of : (x y : X) (o : Ordering) → cmp x y ≡ o → is_lt o ≡ true → cmp x y ≡ Less
  less_of x y Less e h = e
  less_of x y Equal e h = cc
  less_of x y Greater e h = cc

  at_first : (x y : X) (ys : List X) → Ascending (y ∷ ys) → Ascending (arrive cmp x ys) → is_eq (cmp x y) ≡ false → (b : Bool) → is_lt (cmp x y) ≡ b → Ascending (cond b (x ∷ y ∷ ys) (y ∷ arrive cmp x ys))
  at_first x y ys h ih new true e =
      let l = less_of x y (cmp x y) refl e in
      ((l, All-weaker (λ w. cmp y w ≡ Less) (λ w. cmp x w ≡ Less) (λ w k. laws.before x y w l k) ys h.0), h)
  at_first x y ys h ih new false e =
      (all_arrive laws (λ w. cmp y w ≡ Less) x ys (stands_after x y (cmp x y) refl new e) h.0, ih)

  pub arrive_ascending : (x : X) (xs : List X) → Ascending xs → is_some (found cmp x xs) ≡ false → Ascending (arrive cmp x xs)
  arrive_ascending x [] h new = (tt, tt)
  arrive_ascending x (y ∷ ys) h new =
      let n = not_found x y ys (is_eq (cmp x y)) refl new in
      at_first x y ys h (arrive_ascending x ys h.1 n.1) n.0 (is_lt (cmp x y)) refl
