-- What transfers add up to.
use Rattle.std.proofs.Common.{◌≡◌, ℕ, zero, suc, ◌+◌, ◌<◌, ◌≤◌, List, ℤ, pos, ◌+ℤ◌, Some, refl, ap, ◌∙◌, inl, inr, add-one, arith}
use Rattle.std.proofs.Math.IntN.{+ℤ_idr}
use Rattle.std.proofs.lemmas.Bool.{cases_lt}
use Rattle.std.proofs.lemmas.Option.{MatchOption-at_some}
use Rattle.rules.specs.Amounts.{total_z}
use Rattle.rules.specs.Rounds.{transfer}
use Rattle.auction.specs.declared.division.Division.{Division}
use Rattle.auction.specs.Rows.{RowZ, at_z}
use Rattle.calls.specs.Held.{brought_by}
use Rattle.book.specs.declared.round.BookRound.{BookRound}
use Rattle.book.specs.HeldRounds.{round_held}

pub total_z_none : (f : ℕ → ℤ) → pos 0 ≡ total_z 0 f
unfolding total_z
total_z_none f = refl

pub total_z_more : (n : ℕ) (f : ℕ → ℤ) → total_z (n + 1) f ≡ total_z n f +ℤ f n
unfolding total_z
total_z_more n f = ap (λ (m : ℕ). total_z m f) (add-one n)

total_z_same : (n : ℕ) (f g : ℕ → ℤ) → ((a : ℕ) → a < n → f a ≡ g a) → total_z n f ≡ total_z n g
unfolding total_z
total_z_same zero f g same = refl
total_z_same (suc n) f g same =
    ap (λ (z : ℤ). z +ℤ f n) (total_z_same n f g (λ a l. same a (omega arith))) ∙ ap (λ (z : ℤ). total_z n g +ℤ z) (same n (omega arith))

-- a row has nothing behind its first numbers
total_z_row : (n m : ℕ) (f : ℕ → ℤ) (row : List ℤ) → RowZ m f row → m ≤ n → total_z n (at_z row) ≡ total_z m f
unfolding total_z
total_z_row zero zero f row h l = refl
total_z_row zero (suc m) f row h l = absurd (omega (arith, l))
total_z_row (suc n) m f row h l =
    elim (cases_lt n m) [
      | inl k ↦
          let e : suc n ≡ m = omega arith in
          total_z_same (suc n) (at_z row) f (λ a b. h.shows a (omega arith)) ∙ ap (λ (i : ℕ). total_z i f) e
      | inr k ↦ ap (λ (z : ℤ). total_z n (at_z row) +ℤ z) (h.blank n k) ∙ +ℤ_idr (total_z n (at_z row)) ∙ total_z_row n m f row h k
    ]

pub brought_shown : (b : BookRound) (d : Division) → b.division ≡ Some d → total_z 64 (at_z d.transfers) ≡ brought_by (round_held b)
brought_shown b d e = total_z_row 64 b.terms.members (transfer (round_held b).round b.offer) d.transfers (MatchOption-at_some _ _ d e b.divided).paid b.terms.seats
