-- One part of a line after another, where a part may itself be several texts.
use Rattle.std.proofs.Common.{◌≡◌, ℕ, List, ◌++◌, ℤ, Some, None, Option, sym, refl, ◌∙◌, subst, arith, length-append, w64, SFits, to_z, of_z}
use Rattle.std.specs.Fmt.{signed_decimal}
use Rattle.std.proofs.lemmas.Int.{to_z-of_z}
use Rattle.text.specs.Writing.{Tried}
use Rattle.text.proofs.Writes.{tried_then}
use Rattle.lines.specs.Lines.{spaced}

-- a part was written, and more was tried after it
pub tried_on : {before middle after xs ys : List ℕ} {at between : ℕ} {answer : Option ℕ} →
    Tried before at xs middle (Some between) → Tried middle between ys after answer → Tried before at (xs ++ ys) after answer
tried_on {before} {middle} {after} {xs} {ys} {at} {between} a b = tried_then (a.written between refl) b

never : {A : Type 0} {n : ℕ} → Some n ≡ None → A
never e = let z : ◌≡◌ {A = ℕ} 0 1 = cc in absurd (omega arith)

-- at the exit of a `?`: there was no room for a part, so there is none for it and more
pub tried_stuck : {before middle after xs : List ℕ} (ys : List ℕ) {at : ℕ} {answer : Option ℕ} →
    answer ≡ None → Tried before at xs middle None → Tried before at (xs ++ ys) after answer
tried_stuck ys e a = record {
  written = λ end same. never (sym same ∙ e);
  short = λ _. simp length-append (omega (arith, a.short refl));
}

-- a number below 0 or not, read back from its 64 bits
pub tried_amount : {before after : List ℕ} {at : ℕ} {answer : Option ℕ} (z : ℤ) → SFits w64 z →
    Tried before at (spaced (signed_decimal (to_z w64 (of_z w64 z)))) after answer → Tried before at (spaced (signed_decimal z)) after answer
tried_amount {before} {after} {at} {answer} z fits a =
    let P : ℤ → Type 0 = λ y. Tried before at (spaced (signed_decimal y)) after answer in
    subst P (to_z-of_z w64 z fits) a
