-- The field at the front of some bytes.
use Rattle.std.proofs.Common.{◌≡◌, ℕ, zero, suc, ◌+◌, ◌/◌, ◌%◌, ◌^◌, ◌<◌, ◌≤◌, Bool, true, false, cond, leb, List, [], ◌∷◌, ◌++◌, length, take, Some, None, refl, ap, arith}
use lib.Seq.{take-append_seam}
use Rattle.std.proofs.lemmas.List.{length-take, length-append}
use Rattle.std.proofs.lemmas.Bool.{le-leb, lt-leb}
use Rattle.callfile.specs.Numbers.{number_of}
use Rattle.callfile.specs.Fields.{Tagged, tagged, front, laid}
use Rattle.callfile.specs.Laws.{FieldFound, FieldCut}
use Rattle.callfile.proofs.Bytes.{number_in}

-- two length bytes
length_bytes : (n : ℕ) → n < 2 ^ 16 → number_of (n / 256 % 256 ∷ n % 256 ∷ []) ≡ n
length_bytes n h = number_in 2 n h

pub front-found : FieldFound
front-found f rest h =
    let e = length_bytes (length f.value) h in
    let k : leb (length f.value) (length (f.value ++ rest)) ≡ true = le-leb _ _ (omega (arith, length-append f.value rest)) in
    rw (e, k) (ap (λ v. Some (tagged f.tag v)) (take-append_seam f.value rest))

cut_behind : (t a b : ℕ) (v : List ℕ) (n : ℕ) → number_of (a ∷ b ∷ []) ≡ length v → n < 3 + length v → front (take n (t ∷ a ∷ b ∷ v)) ≡ None
cut_behind t a b v zero e h = refl
cut_behind t a b v (suc zero) e h = refl
cut_behind t a b v (suc (suc zero)) e h = refl
cut_behind t a b v (suc (suc (suc n))) e h =
    let k : leb (length v) (length (take n v)) ≡ false = lt-leb _ _ (omega (arith, length-take n v)) in
    rw (e, k)

pub front_cut : FieldCut
front_cut f n h k = cut_behind f.tag _ _ f.value n (length_bytes (length f.value) h) (omega arith)

-- a field that was found has all its bytes there
within : (t n : ℕ) (s : List ℕ) (b : Bool) (f : Tagged) → leb n (length s) ≡ b → cond b (Some (tagged t (take n s))) None ≡ Some f →
    length (laid f) ≤ 3 + length s
within t n s true f k e =
    let g : tagged t (take n s) ≡ f = cc in
    let l = ap (λ x. length (laid x)) g in
    omega (arith, length-take n s)
within t n s false f k e = let z : ◌≡◌ {A = ℕ} 0 1 = cc in absurd (omega arith)

pub front_within : (s : List ℕ) (f : Tagged) → front s ≡ Some f → length (laid f) ≤ length s
front_within [] f e = let z : ◌≡◌ {A = ℕ} 0 1 = cc in absurd (omega arith)
front_within (t ∷ []) f e = let z : ◌≡◌ {A = ℕ} 0 1 = cc in absurd (omega arith)
front_within (t ∷ a ∷ []) f e = let z : ◌≡◌ {A = ℕ} 0 1 = cc in absurd (omega arith)
front_within (t ∷ a ∷ b ∷ s) f e = omega (arith, within t (number_of (a ∷ b ∷ [])) s _ f refl e)
