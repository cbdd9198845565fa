-- What follows of any total order.
use Rattle.std.proofs.Common.{◌≡◌, ℕ, true, false, Ordering, Less, Equal, Greater, sym, refl, ap, ◌∙◌, arith}
use Rattle.std.specs.Ordering.{is_eq, is_lt, is_gt, ordering_reverse}
use Rattle.ranked.specs.Order.{TotalOrder}

pub is_less : (o : Ordering) → is_lt o ≡ true → o ≡ Less
is_less Less h = refl
is_less Equal h = cc
is_less Greater h = cc

pub is_equal : (o : Ordering) → is_eq o ≡ true → o ≡ Equal
is_equal Less h = cc
is_equal Equal h = refl
is_equal Greater h = cc

pub not_after : (o : Ordering) → is_lt o ≡ false → is_gt (ordering_reverse o) ≡ false
not_after Less h = h
not_after Equal h = refl
not_after Greater h = refl

module _ {X : Type 0} {cmp : X → X → Ordering} (laws : TotalOrder cmp) where
  back : (x y : X) (o : Ordering) → cmp x y ≡ o → cmp y x ≡ ordering_reverse o
  back x y o e = laws.turned y x ∙ ap ordering_reverse e

  -- x level with y: whatever stands before, level with or after y does so with x
  pub alike : (x y z : X) → cmp x y ≡ Equal → cmp x z ≡ cmp y z
  alike x y z e = by (cmp x z) (cmp y z) refl refl
    where
      by : (o p : Ordering) → cmp x z ≡ o → cmp y z ≡ p → cmp x z ≡ cmp y z
      by Less Less a b = a ∙ sym b
      by Less Equal a b = let q = laws.level x y z e b in cc
      by Less Greater a b = let q = laws.before x z y a (back y z Greater b) in cc
      by Equal Less a b = let q = laws.level y x z (back x y Equal e) a in cc
      by Equal Equal a b = a ∙ sym b
      by Equal Greater a b = let q = laws.level y x z (back x y Equal e) a in cc
      by Greater Less a b = let q = laws.before y z x b (back x z Greater a) in let r = back x y Equal e in cc
      by Greater Equal a b = let q = laws.level x y z e b in cc
      by Greater Greater a b = a ∙ sym b

  -- x before y, and y not after w: x before w
  pub ahead : (x y w : X) (o : Ordering) → cmp y w ≡ o → is_gt o ≡ false → cmp x y ≡ Less → cmp x w ≡ Less
  ahead x y w Less e h l = laws.before x y w l e
  ahead x y w Equal e h l = laws.turned x w ∙ ap ordering_reverse (sym (alike y w x e)) ∙ sym (laws.turned x y) ∙ l
  ahead x y w Greater e h l = absurd (let z : ◌≡◌ {A = ℕ} 0 1 = cc in omega arith)
