-- Names compared byte by byte are in a total order.
use Rattle.std.specs.Prelude.{◌≡◌, ℕ, ◌⊎◌, List, [], ◌∷◌, refl}
use Rattle.std.specs.declared.cmp.Ordering.TheVariants.{Less, Equal, Greater}
use Rattle.std.specs.declared.cmp.Ordering.{Ordering}
use Rattle.std.proofs.Common.{sym, ap, ◌∙◌, arith, inl, inr, ⊎_elim}
use Rattle.std.proofs.lemmas.Bool.Decides.{nat_tests}
use Rattle.std.specs.Cmp.{nat_cmp_total}
use Rattle.std.specs.Cmp.Lexicographic.{slice_cmp}
use Rattle.std.specs.Ordering.{ordering_reverse, ordering_then, nat_cmp}
use Rattle.ranked.specs.Order.{TotalOrder}
use Rattle.rules.specs.Names.{by_bytes}

reversed_then : (o p : Ordering) → ordering_reverse (ordering_then o p) ≡ ordering_then (ordering_reverse o) (ordering_reverse p)
reversed_then Less p = refl
reversed_then Equal p = refl
reversed_then Greater p = refl

bytes_turned : (xs ys : List ℕ) → by_bytes xs ys ≡ ordering_reverse (by_bytes ys xs)
bytes_turned [] [] = refl
bytes_turned [] (y ∷ ys) = refl
bytes_turned (x ∷ xs) [] = refl
bytes_turned (x ∷ xs) (y ∷ ys) = rw (nat_cmp_total.antisymm x y, bytes_turned xs ys) (sym (reversed_then (nat_cmp y x) (by_bytes ys xs)))

then_equal : (o p : Ordering) → ordering_then o p ≡ Equal → (o ≡ Equal) × (p ≡ Equal)
then_equal Less p h = (h, cc)
then_equal Equal p h = (refl, h)
then_equal Greater p h = (h, cc)

then_less : (o p : Ordering) → ordering_then o p ≡ Less → (o ≡ Less) ⊎ ((o ≡ Equal) × (p ≡ Less))
then_less Less p h = inl refl
then_less Equal p h = inr (refl, h)
then_less Greater p h = inl h

-- y level with z: x stands to both alike
alike_right : (x y z : ℕ) → nat_cmp y z ≡ Equal → nat_cmp x z ≡ nat_cmp x y
alike_right x y z e = nat_cmp_total.antisymm x z ∙ ap ordering_reverse (sym (nat_cmp_total.congr y z x e)) ∙ sym (nat_cmp_total.antisymm x y)

bytes_alike : (xs ys zs : List ℕ) → by_bytes xs ys ≡ Equal → by_bytes xs zs ≡ by_bytes ys zs
bytes_alike [] [] zs h = refl
bytes_alike [] (y ∷ ys) zs h = cc
bytes_alike (x ∷ xs) [] zs h = cc
bytes_alike (x ∷ xs) (y ∷ ys) [] h = refl
bytes_alike (x ∷ xs) (y ∷ ys) (z ∷ zs) h =
    let e = then_equal (nat_cmp x y) (by_bytes xs ys) h in
    ap (λ o. ordering_then o (by_bytes xs zs)) (nat_cmp_total.congr x y z e.0) ∙ ap (ordering_then (nat_cmp y z)) (bytes_alike xs ys zs e.1)

bytes_before : (xs ys zs : List ℕ) → by_bytes xs ys ≡ Less → by_bytes ys zs ≡ Less → by_bytes xs zs ≡ Less
bytes_before [] [] zs h k = k
bytes_before [] (y ∷ ys) [] h k = cc
bytes_before [] (y ∷ ys) (z ∷ zs) h k = refl
bytes_before (x ∷ xs) [] zs h k = cc
bytes_before (x ∷ xs) (y ∷ ys) [] h k = cc
bytes_before (x ∷ xs) (y ∷ ys) (z ∷ zs) h k =
    let first : nat_cmp x z ≡ Less → ordering_then (nat_cmp x z) (by_bytes xs zs) ≡ Less = λ e. ap (λ o. ordering_then o (by_bytes xs zs)) e in
    ⊎_elim
    (λ a. ⊎_elim (λ b. first (nat_cmp_total.trans x y z a b)) (λ b. first (alike_right x y z b.0 ∙ a)) (then_less (nat_cmp y z) (by_bytes ys zs) k))
    (λ a. ⊎_elim
    (λ b. first (nat_cmp_total.congr x y z a.0 ∙ b))
    (λ b. ap (λ o. ordering_then o (by_bytes xs zs)) (nat_cmp_total.congr x y z a.0 ∙ b.0) ∙ bytes_before xs ys zs a.1 b.1)
    (then_less (nat_cmp y z) (by_bytes ys zs) k))
    (then_less (nat_cmp x y) (by_bytes xs ys) h)

rank_equal : (x y : ℕ) → nat_cmp x y ≡ Equal → x ≡ y
rank_equal x y h = grind (arith, nat_tests)

pub bytes_order : TotalOrder by_bytes
bytes_order = record {
  turned = bytes_turned;
  before = bytes_before;
  level = λ xs ys zs p q. bytes_alike xs ys zs p ∙ q;
}

-- level names are the same bytes
pub bytes_level : (xs ys : List ℕ) → by_bytes xs ys ≡ Equal → xs ≡ ys
bytes_level [] [] h = refl
bytes_level [] (y ∷ ys) h = cc
bytes_level (x ∷ xs) [] h = cc
bytes_level (x ∷ xs) (y ∷ ys) h =
    let e = then_equal (nat_cmp x y) (by_bytes xs ys) h in
    let first : x ≡ y = rank_equal x y e.0 in
    let rest = bytes_level xs ys e.1 in
    cc

-- what `cmp` of two arrays answers
pub compared : (xs ys : List ℕ) (r : Ordering) → r ≡ slice_cmp nat_cmp xs ys → r ≡ by_bytes xs ys
compared [] [] r h = h
compared [] (y ∷ ys) r h = h
compared (x ∷ xs) [] r h = h
compared (x ∷ xs) (y ∷ ys) r h = h ∙ ap (ordering_then (nat_cmp x y)) (compared xs ys (slice_cmp nat_cmp xs ys) refl)
