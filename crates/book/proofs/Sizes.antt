-- The sizes of a member's bids, picked out and added up.
use Rattle.std.proofs.Common.{◌≡◌, ℕ, ◌+◌, ◌==◌, true, false, cond, sum_by, filter, List, [], ◌∷◌, refl, ap, arith, ◌∙◌}
use Rattle.std.proofs.lemmas.List.Sums.{sum_by-cons}
use Rattle.rules.specs.declared.bid.Bid.{Bid}
use Rattle.rules.specs.Amounts.{when}
use Rattle.calls.specs.Packages.{sizes_of}

pub sizes_added : (a : ℕ) (bids : List Bid) → sum_by (λ b. b.size) (filter (λ b. b.member == a) bids) ≡ sizes_of a bids
sizes_added a [] = refl
sizes_added a (b ∷ bs) =
    let rest = filter (λ (x : Bid). x.member == a) bs in
    elim (b.member == a) as (λ t. sum_by (λ (x : Bid). x.size) (cond t (b ∷ rest) rest) ≡ when t b.size + sizes_of a bs) [
      | true ↦ sum_by-cons (λ (x : Bid). x.size) b rest ∙ ap (λ n. b.size + n) (sizes_added a bs)
      | false ↦ grind (arith, sizes_added a bs)
    ]
