-- What an arrival, and a run of arrivals, makes of a table.
use Rattle.std.proofs.Common.{◌≡◌, zero, suc, ◌+◌, ◌≤◌, Bool, true, false, cond, List, [], ◌∷◌, ◌++◌, length, Ordering, Less, sym, refl, ap, ◌∙◌, subst, add-one, arith}
use Rattle.std.specs.Ordering.{is_eq, is_lt, is_gt}
use Rattle.std.specs.List.Sorted.{IsPermutation}
use Rattle.std.specs.List.{insert, AllByRecursion as All}
use Rattle.std.proofs.lemmas.List.{append-nil, append_assoc}
use Rattle.std.proofs.ByRecursion.{All-weaker, All-get_or, All-from_get_or}
use Rattle.std.proofs.lemmas.List.Sorted.{length_permutation, IsPermutation-refl, IsPermutation-sym, IsPermutation-cons, IsPermutation-swap, IsPermutation-trans}
use Rattle.ranked.specs.Order.{TotalOrder, arrive, behind, InOrder, level_with, Arrived, arrivals, Keeps}
use Rattle.ranked.proofs.Orders.{is_less, is_equal, not_after, alike, ahead}

module _ {X : Type 0} (cmp : X → X → Ordering) (x : X) where
  pub behind-le : (xs : List X) → behind cmp x xs ≤ length xs
  behind-le [] = omega arith
  behind-le (y ∷ ys) = let ih = behind-le ys in
      elim (is_lt (cmp x y)) as (λ b. cond b 0 (behind cmp x ys + 1) ≤ length (y ∷ ys)) [ true ↦ omega arith | false ↦ omega arith ]

  pub inserted_behind : (xs : List X) → insert xs (behind cmp x xs) x ≡ arrive cmp x xs
  inserted_behind [] = refl
  inserted_behind (y ∷ ys) =
      elim (is_lt (cmp x y)) as (λ b. insert (y ∷ ys) (cond b 0 (behind cmp x ys + 1)) x ≡ cond b (x ∷ y ∷ ys) (y ∷ arrive cmp x ys))
      [ true ↦ refl | false ↦ rw add-one (ap (λ l. y ∷ l) (inserted_behind ys)) ]

  pub arrive_same : (xs : List X) → IsPermutation (x ∷ xs) (arrive cmp x xs)
  arrive_same [] = IsPermutation-refl _
  arrive_same (y ∷ ys) =
      elim (is_lt (cmp x y)) as (λ b. IsPermutation (x ∷ y ∷ ys) (cond b (x ∷ y ∷ ys) (y ∷ arrive cmp x ys))) [
        | true ↦ IsPermutation-refl _
        | false ↦ IsPermutation-trans _ (y ∷ x ∷ ys) _ (IsPermutation-swap (x ∷ y ∷ ys) (y ∷ x ∷ ys) 0 1 (omega arith) (omega arith) refl) (IsPermutation-cons y _ _ (arrive_same ys))
      ]

pub in_order_none : {X : Type 0} (cmp : X → X → Ordering) → InOrder cmp []
in_order_none cmp i j d l = absurd (omega arith)

module _ {X : Type 0} {cmp : X → X → Ordering} (laws : TotalOrder cmp) where
  -- x before the first of a list in order: x before all of it
  ahead_all : (x y : X) (ys : List X) → All (λ w. is_gt (cmp y w) ≡ false) ys → cmp x y ≡ Less → All (λ w. cmp x w ≡ Less) ys
  ahead_all x y ys h l = All-weaker _ (λ w. cmp x w ≡ Less) (λ w k. ahead laws x y w _ refl k l) ys h

  pub all_arrive : (P : X → Type 0) (x : X) (xs : List X) → P x → All P xs → All P (arrive cmp x xs)
  all_arrive P x [] p h = (p, tt)
  all_arrive P x (y ∷ ys) p h =
      elim (is_lt (cmp x y)) as (λ b. All P (cond b (x ∷ y ∷ ys) (y ∷ arrive cmp x ys))) [ true ↦ (p, h) | false ↦ (h.0, all_arrive P x ys p h.1) ]

  -- `InOrder`, from the front on
  abbrev Graded : List X → Type 0
  Graded [] = Unit {0}
  Graded (x ∷ xs) = All (λ y. is_gt (cmp x y) ≡ false) xs × Graded xs

  graded : (xs : List X) → InOrder cmp xs → Graded xs
  graded [] s = tt
  graded (x ∷ xs) s =
      (All-from_get_or (λ y. is_gt (cmp x y) ≡ false) xs x (λ k l. s 0 (suc k) x (omega arith, omega arith)), graded xs (λ i j d l. s (suc i) (suc j) d (omega arith, omega arith)))

  in_order_of : (xs : List X) → Graded xs → InOrder cmp xs
  in_order_of [] h i j d l = absurd (omega arith)
  in_order_of (x ∷ xs) h i zero d l = absurd (omega arith)
  in_order_of (x ∷ xs) h zero (suc j) d l = All-get_or (λ y. is_gt (cmp x y) ≡ false) xs j d (omega arith) h.0
  in_order_of (x ∷ xs) h (suc i) (suc j) d l = in_order_of xs h.1 i j d (omega arith, omega arith)

  at_graded : (x y : X) (ys : List X) → Graded (y ∷ ys) → Graded (arrive cmp x ys) → (b : Bool) → is_lt (cmp x y) ≡ b → Graded (cond b (x ∷ y ∷ ys) (y ∷ arrive cmp x ys))
  at_graded x y ys h ih true e =
      let l = is_less (cmp x y) e in
      ((ap is_gt l, All-weaker (λ w. cmp x w ≡ Less) (λ w. is_gt (cmp x w) ≡ false) (λ w k. ap is_gt k) ys (ahead_all x y ys h.0 l)), h)
  at_graded x y ys h ih false e = (all_arrive (λ w. is_gt (cmp y w) ≡ false) x ys (ap is_gt (laws.turned y x) ∙ not_after (cmp x y) e) h.0, ih)

  arrive_graded : (x : X) (xs : List X) → Graded xs → Graded (arrive cmp x xs)
  arrive_graded x [] h = (tt, tt)
  arrive_graded x (y ∷ ys) h = at_graded x y ys h (arrive_graded x ys h.1) (is_lt (cmp x y)) refl

  none_level : (z : X) (ys : List X) → All (λ w. cmp z w ≡ Less) ys → level_with cmp z ys ≡ []
  none_level z [] h = refl
  none_level z (y ∷ ys) h = rw h.0 (none_level z ys h.1)

  -- x, of which l says whether it is looked for, moves from the front of none to their end
  goes_last : (x : X) (l : List X) (b : Bool) → (b ≡ true → l ≡ []) → cond b (x ∷ l) l ≡ l ++ cond b (x ∷ []) []
  goes_last x l true h = rw (h refl)
  goes_last x l false h = sym (append-nil l)

  at_stable : (x y z : X) (ys : List X) → Graded (y ∷ ys) → level_with cmp z (arrive cmp x ys) ≡ level_with cmp z ys ++ level_with cmp z (x ∷ []) →
      (b : Bool) → is_lt (cmp x y) ≡ b → level_with cmp z (cond b (x ∷ y ∷ ys) (y ∷ arrive cmp x ys)) ≡ level_with cmp z (y ∷ ys) ++ level_with cmp z (x ∷ [])
  at_stable x y z ys h ih true e =
      let l = is_less (cmp x y) e in
      let before : All (λ w. cmp x w ≡ Less) (y ∷ ys) = (l, ahead_all x y ys h.0 l) in
      goes_last x (level_with cmp z (y ∷ ys)) (is_eq (cmp z x))
      (λ t. none_level z (y ∷ ys) (All-weaker (λ w. cmp x w ≡ Less) (λ w. cmp z w ≡ Less) (λ w k. alike laws z x w (is_equal (cmp z x) t) ∙ k) (y ∷ ys) before))
  at_stable x y z ys h ih false e =
      elim (is_eq (cmp z y)) as (λ v. cond v (y ∷ level_with cmp z (arrive cmp x ys)) (level_with cmp z (arrive cmp x ys)) ≡ cond v (y ∷ level_with cmp z ys) (level_with cmp z ys) ++ level_with cmp z (x ∷ []))
      [ true ↦ ap (λ l. y ∷ l) ih | false ↦ ih ]

  arrive_stable : (x : X) (xs : List X) → Graded xs → (z : X) → level_with cmp z (arrive cmp x xs) ≡ level_with cmp z xs ++ level_with cmp z (x ∷ [])
  arrive_stable x [] h z = refl
  arrive_stable x (y ∷ ys) h z = at_stable x y z ys h (arrive_stable x ys h.1 z) (is_lt (cmp x y)) refl

  -- the table after an insert behind those that x goes behind
  pub arrived : (x : X) (xs ys : List X) → ys ≡ insert xs (behind cmp x xs) x → Arrived cmp x xs ys
  arrived x xs ys e =
      let p : ys ≡ arrive cmp x xs = e ∙ inserted_behind cmp x xs in
      let all : IsPermutation (x ∷ xs) ys = subst (IsPermutation (x ∷ xs)) (sym p) (arrive_same cmp x xs) in
      record {
        is = p;
        in_order = λ h. subst (InOrder cmp) (sym p) (in_order_of (arrive cmp x xs) (arrive_graded x xs (graded xs h)));
        same = all;
        more = length_permutation (x ∷ xs) ys all ∙ sym (add-one (length xs));
        stable = λ h z. ap (level_with cmp z) p ∙ arrive_stable x xs (graded xs h) z;
      }

  level_cons : (z x : X) (ts xs : List X) → (ts ++ level_with cmp z (x ∷ [])) ++ level_with cmp z xs ≡ ts ++ level_with cmp z (x ∷ xs)
  level_cons z x ts xs =
      append_assoc ts _ _ ∙ ap (λ l. ts ++ l)
      (elim (is_eq (cmp z x)) as (λ b. cond b (x ∷ []) [] ++ level_with cmp z xs ≡ cond b (x ∷ level_with cmp z xs) (level_with cmp z xs)) [ true ↦ refl | false ↦ refl ])

  arrivals_graded : (t xs : List X) → Graded t → Graded (arrivals cmp t xs)
  arrivals_graded t [] h = h
  arrivals_graded t (x ∷ xs) h = arrivals_graded (arrive cmp x t) xs (arrive_graded x t h)

  arrivals-level : (t xs : List X) → Graded t → (z : X) → level_with cmp z (arrivals cmp t xs) ≡ level_with cmp z t ++ level_with cmp z xs
  arrivals-level t [] h z = sym (append-nil _)
  arrivals-level t (x ∷ xs) h z =
      arrivals-level (arrive cmp x t) xs (arrive_graded x t h) z ∙ ap (λ l. l ++ level_with cmp z xs) (arrive_stable x t h z) ∙ level_cons z x (level_with cmp z t) xs

  -- x from the front of the rest to the front of the table
  front : (x : X) (t xs : List X) → IsPermutation (t ++ (x ∷ xs)) ((x ∷ t) ++ xs)
  front x [] xs = IsPermutation-refl _
  front x (y ∷ t) xs =
      IsPermutation-trans _ (y ∷ (x ∷ (t ++ xs))) _ (IsPermutation-cons y _ _ (front x t xs)) (IsPermutation-swap (y ∷ x ∷ (t ++ xs)) (x ∷ y ∷ (t ++ xs)) 0 1 (omega arith) (omega arith) refl)

  beside : (s t xs : List X) → IsPermutation s t → IsPermutation (s ++ xs) (t ++ xs)
  beside s t [] h = subst (λ l. IsPermutation l (t ++ [])) (sym (append-nil s)) (subst (IsPermutation s) (sym (append-nil t)) h)
  beside s t (x ∷ xs) h =
      IsPermutation-trans _ ((x ∷ s) ++ xs) _ (front x s xs) (IsPermutation-trans _ ((x ∷ t) ++ xs) _ (beside (x ∷ s) (x ∷ t) xs (IsPermutation-cons x s t h)) (IsPermutation-sym _ _ (front x t xs)))

  arrivals_same : (t xs : List X) → IsPermutation (t ++ xs) (arrivals cmp t xs)
  arrivals_same t [] = subst (λ l. IsPermutation l t) (sym (append-nil t)) (IsPermutation-refl t)
  arrivals_same t (x ∷ xs) =
      IsPermutation-trans _ ((x ∷ t) ++ xs) _ (front x t xs) (IsPermutation-trans _ (arrive cmp x t ++ xs) _ (beside (x ∷ t) (arrive cmp x t) xs (arrive_same cmp x t)) (arrivals_same (arrive cmp x t) xs))

  pub keeps : (xs : List X) → Keeps cmp xs
  keeps xs = record {
    in_order = in_order_of (arrivals cmp [] xs) (arrivals_graded [] xs tt);
    same = arrivals_same [] xs;
    stable = arrivals-level [] xs tt;
  }
