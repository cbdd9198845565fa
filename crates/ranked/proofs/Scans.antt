-- What a search of a table comes to.
use Rattle.std.proofs.Common.{◌≡◌, ℕ, zero, suc, ◌+◌, ◌<◌, length, get_or, Bool, true, false, cond, List, [], ◌∷◌, Some, None, Option, Ordering, sym, refl, ap, ◌∙◌, add-zero, zero-add, add-one, arith}
use Rattle.std.proofs.lemmas.Iterator.Adapters.{position_from-zero}
use Rattle.std.proofs.lemmas.List.Recursion.{is_position_or_len}
use Rattle.std.specs.List.{position, position_from, position_or_len}
use Rattle.std.specs.Option.{option_map}
use Rattle.std.specs.Ordering.{is_eq, is_lt}
use Rattle.ranked.specs.Order.{behind, found, FirstLevel}

-- a place counted from i on, counted from the front
abbrev onward : ℕ → Option ℕ → Option ℕ
onward i o = option_map (λ n. n + i) o

onward_none : (o : Option ℕ) → onward 0 o ≡ o
onward_none None = refl
onward_none (Some n) = ap Some (add-zero n)

onward_more : (i : ℕ) (o : Option ℕ) → onward i (option_map (λ n. n + 1) o) ≡ onward (i + 1) o
onward_more i None = refl
onward_more i (Some n) = ap Some (omega arith)

onward_found : (i : ℕ) (b : Bool) (o : Option ℕ) → onward i (cond b (Some 0) (option_map (λ n. n + 1) o)) ≡ cond b (Some i) (onward (i + 1) o)
onward_found i true o = ap Some (zero-add i)
onward_found i false o = onward_more i o

module _ {X : Type 0} (cmp : X → X → Ordering) (x : X) where
  -- x goes in front of the first record that it stands before
  pub behind_is : (xs : List X) → behind cmp x xs ≡ position_or_len (λ y. is_lt (cmp x y)) xs
  behind_is = is_position_or_len (behind cmp x) (λ y. is_lt (cmp x y)) refl (λ y ys. ap (cond (is_lt (cmp x y)) 0) (omega arith))

  found_from : (xs : List X) (i : ℕ) → onward i (found cmp x xs) ≡ position_from (λ y. is_eq (cmp x y)) i xs
  found_from [] i = refl
  found_from (y ∷ ys) i = onward_found i (is_eq (cmp x y)) (found cmp x ys) ∙ ap (cond (is_eq (cmp x y)) (Some i)) (found_from ys (i + 1))

  -- the first record that is level with x
  pub found_is : (xs : List X) → found cmp x xs ≡ position (λ y. is_eq (cmp x y)) xs
  found_is xs = sym (onward_none (found cmp x xs)) ∙ found_from xs 0 ∙ sym (position_from-zero (λ y. is_eq (cmp x y)) xs)

  one_more : (y : X) (ys : List X) (i : ℕ) → is_eq (cmp x y) ≡ false → ((k : ℕ) (d : X) → k < i → is_eq (cmp x (get_or ys k d)) ≡ false) → (k : ℕ) (d : X) → k < i + 1 → is_eq (cmp x (get_or (y ∷ ys) k d)) ≡ false
  one_more y ys i e h zero d l = e
  one_more y ys i e h (suc k) d l = h k d (omega arith)

  found-behind : (y : X) (ys : List X) (o : Option ℕ) → is_eq (cmp x y) ≡ false → FirstLevel cmp x ys o → FirstLevel cmp x (y ∷ ys) (option_map (λ n. n + 1) o)
  found-behind y ys None e h = λ k d l. one_more y ys (length ys) e h k d (omega arith)
  found-behind y ys (Some i) e h = (omega (arith, h.0), (rw add-one h.1.0, one_more y ys i e h.1.1))

  found_at : (y : X) (ys : List X) (b : Bool) → is_eq (cmp x y) ≡ b → FirstLevel cmp x ys (found cmp x ys) → FirstLevel cmp x (y ∷ ys) (cond b (Some 0) (option_map (λ n. n + 1) (found cmp x ys)))
  found_at y ys true e ih = (omega arith, ((λ d. e), (λ k d l. absurd (omega arith))))
  found_at y ys false e ih = found-behind y ys (found cmp x ys) e ih

  -- what `found` says
  pub found_first : (xs : List X) → FirstLevel cmp x xs (found cmp x xs)
  found_first [] = λ k d l. absurd (omega arith)
  found_first (y ∷ ys) = found_at y ys (is_eq (cmp x y)) refl (found_first ys)
