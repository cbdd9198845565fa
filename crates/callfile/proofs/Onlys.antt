-- Calls are read from their bytes only.
use Rattle.std.proofs.Common.{◌≡◌, ℕ, ◌^◌, ◌<◌, Bool, true, false, cond, eqb, leb, ◌⊎◌, List, [], ◌∷◌, ◌++◌, length, take, drop, Some, None, Ok, Err, Option, Result, sym, refl, ap, ◌∙◌, subst, inl, inr, ⊎_elim, arith}
use lib.Seq.{take-length}
use Rattle.std.proofs.lemmas.Int.Digits.{number_lt}
use Rattle.std.proofs.ByRecursion.{All-take, All-drop}
use Rattle.std.proofs.lemmas.List.{length-take-le, length-drop, take-append-drop}
use Rattle.std.proofs.lemmas.Bool.{leb-true, eqb-true}
use Rattle.std.specs.Int.Digits.{AllBelowBase}
use Rattle.rules.specs.declared.refusal.Stop.{Stop}
use Rattle.rules.specs.declared.refusal.Stop.TheVariants.{WrongLength}
use Rattle.callfile.specs.declared.call.Call.{Call}
use Rattle.callfile.specs.declared.call.Call.TheVariants.{Enrol, CloseRoll, Multiplier}
use Rattle.callfile.specs.Numbers.{number_of, in_bytes}
use Rattle.callfile.specs.Fields.{Tagged, tagged, laid, front}
use Rattle.callfile.specs.Calls.{said, encode, Fits, sized, call_of}
use Rattle.callfile.specs.Places.{heard}
use Rattle.callfile.specs.Laws.{ReadsOnly}
use Rattle.callfile.proofs.Bytes.{in_number}
use Rattle.callfile.proofs.Steps.{measured_is}

bytes_only : (k : ℕ) (bs : List ℕ) → length bs ≡ k → AllBelowBase 256 bs → in_bytes k (number_of bs) ≡ bs
bytes_only k bs h u =
    let t : take k bs ≡ bs = ap (λ n. take n bs) (sym h) ∙ take-length bs in
    ap (λ x. in_bytes k (number_of x)) (sym t) ∙ (in_number k bs (omega arith) u ∙ t)

number_below : (k : ℕ) (bs : List ℕ) → length bs ≡ k → AllBelowBase 256 bs → number_of bs < 256 ^ k
number_below k bs h u = subst (λ n. number_of bs < 256 ^ n) h (number_lt 256 bs u)

-- a call says the tag and the value that it was read from, and fits
Says : Call → ℕ → List ℕ → Type 0
Says call tag value = (said call ≡ tagged tag value) × Fits call

enrol_says : (v : List ℕ) → AllBelowBase 256 v → length v ≡ 16 → Says (Enrol (record { bytes = take 8 v }) (number_of (drop 8 v))) 1 v
unfolding Says
enrol_says v u h =
    let m : length (take 8 v) ≡ 8 = length-take-le 8 v (omega arith) in
    let n : length (drop 8 v) ≡ 8 = length-drop 8 v ∙ omega arith in
    let front_Bytes = All-take (λ d. d < 256) 8 v u in
    let back-bytes = All-drop (λ d. d < 256) 8 v u in
    let b = bytes_only 8 (drop 8 v) n back-bytes in
    let both : take 8 v ++ in_bytes 8 (number_of (drop 8 v)) ≡ v = ap (λ x. take 8 v ++ x) b ∙ take-append-drop 8 v in
    (ap (tagged 1) both, ((m, front_Bytes), number_below 8 (drop 8 v) n back-bytes))

close_roll_says : (v : List ℕ) → length v ≡ 0 → Says CloseRoll 2 v
unfolding Says
close_roll_says [] h = (refl, tt)
close_roll_says (b ∷ v) h = absurd (omega arith)

multiplier_says : (v : List ℕ) → AllBelowBase 256 v → length v ≡ 4 → Says (Multiplier (number_of v)) 8 v
unfolding Says
multiplier_says v u h = (ap (tagged 8) (bytes_only 4 v h u), number_below 4 v h u)

-- the tag's own case, or those behind it
case_of : (t : Bool) (x y : Result Call Stop) (call : Call) → cond t x y ≡ Ok call → ((t ≡ true) × (x ≡ Ok call)) ⊎ (y ≡ Ok call)
case_of true x y call e = inl (refl, e)
case_of false x y call e = inr e

sized_is : (t : Bool) (d call : Call) → cond t (Ok d) (Err WrongLength) ≡ Ok call → (t ≡ true) × (d ≡ call)
sized_is true d call e = (refl, cc)
sized_is false d call e = let z : ◌≡◌ {A = ℕ} 0 1 = cc in absurd (omega arith)

case_says : (own size tag : ℕ) (v : List ℕ) (d call : Call) → (length v ≡ size → Says d own v) →
    (eqb tag own ≡ true) × (sized size v d ≡ Ok call) → Says call tag v
case_says own size tag v d call says h =
    let s = sized_is (eqb (length v) size) d call h.1 in
    let t : own ≡ tag = sym (eqb-true tag own h.0) in
    subst (λ c. Says c tag v) s.1 (subst (λ n. Says d n v) t (says (eqb-true (length v) size s.0)))

call_says : (tag : ℕ) (v : List ℕ) (call : Call) → AllBelowBase 256 v → call_of tag v ≡ Ok call → Says call tag v
call_says tag v call u e =
    ⊎_elim (case_says 1 16 tag v _ call (enrol_says v u))
    (λ e2. ⊎_elim (case_says 2 0 tag v _ call (close_roll_says v))
    (λ e8. ⊎_elim (case_says 8 4 tag v _ call (multiplier_says v u))
    (λ none. let z : ◌≡◌ {A = ℕ} 0 1 = cc in absurd (omega arith))
    (case_of (eqb tag 8) _ _ call e8)) (case_of (eqb tag 2) _ _ call e2)) (case_of (eqb tag 1) _ _ call e)

-- a field is found only where its bytes stand
headed_only : (t a b : ℕ) (s : List ℕ) (whole : Bool) (f : Tagged) → AllBelowBase 256 (t ∷ a ∷ b ∷ s) →
    leb (number_of (a ∷ b ∷ [])) (length s) ≡ whole → cond whole (Some (tagged t (take (number_of (a ∷ b ∷ [])) s))) None ≡ Some f →
    (take (length (laid f)) (t ∷ a ∷ b ∷ s) ≡ laid f) × AllBelowBase 256 f.value
headed_only t a b s true f u k e =
    let n = number_of (a ∷ b ∷ []) in
    let g : tagged t (take n s) ≡ f = cc in
    let l : length (take n s) ≡ n = length-take-le n s (leb-true _ _ k) in
    let w : in_bytes 2 (length (take n s)) ≡ a ∷ b ∷ [] = ap (in_bytes 2) l ∙ bytes_only 2 (a ∷ b ∷ []) refl (u.1.0, (u.1.1.0, tt)) in
    let all : take (length (laid (tagged t (take n s)))) (t ∷ a ∷ b ∷ s) ≡ laid (tagged t (take n s)) =
    ap (λ m. t ∷ a ∷ b ∷ take m s) l ∙ ap (λ x. t ∷ (x ++ take n s)) (sym w) in
    subst (λ x. (take (length (laid x)) (t ∷ a ∷ b ∷ s) ≡ laid x) × AllBelowBase 256 x.value) g (all, All-take (λ d. d < 256) n s u.1.1.1)
headed_only t a b s false f u k e = let z : ◌≡◌ {A = ℕ} 0 1 = cc in absurd (omega arith)

front_only : (s : List ℕ) (f : Tagged) → AllBelowBase 256 s → front s ≡ Some f → (take (length (laid f)) s ≡ laid f) × AllBelowBase 256 f.value
front_only [] f u e = let z : ◌≡◌ {A = ℕ} 0 1 = cc in absurd (omega arith)
front_only (t ∷ []) f u e = let z : ◌≡◌ {A = ℕ} 0 1 = cc in absurd (omega arith)
front_only (t ∷ a ∷ []) f u e = let z : ◌≡◌ {A = ℕ} 0 1 = cc in absurd (omega arith)
front_only (t ∷ a ∷ b ∷ s) f u e = headed_only t a b s _ f u refl e

heard_only : (s : List ℕ) (o : Option Tagged) (call : Call) (size : ℕ) → AllBelowBase 256 s → front s ≡ o → heard o ≡ Ok (call, size) →
    (take size s ≡ encode call) × (size ≡ length (encode call)) × Fits call
unfolding Says
heard_only s None call size u e h = let z : ◌≡◌ {A = ℕ} 0 1 = cc in absurd (omega arith)
heard_only s (Some f) call size u e h =
    let m = measured_is size (length (laid f)) (call_of f.tag f.value) call h in
    let b = front_only s f u e in
    let c = call_says f.tag f.value call b.1 m.1 in
    let l : laid f ≡ encode call = ap laid (sym c.0) in
    (ap (λ n. take n s) m.0 ∙ (b.0 ∙ l), m.0 ∙ ap length l, c.1)

pub reads_only : ReadsOnly
reads_only bytes call size u h = heard_only bytes (front bytes) call size u refl h
