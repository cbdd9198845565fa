-- The mark of bids of two members or more, and of one.
use Rattle.std.proofs.Common.{◌≡◌, true, false, List, ℤ, sym}
use Rattle.std.proofs.lemmas.Bool.{cond-true, cond-false}
use Rattle.rules.specs.declared.bid.Bid.{Bid}
use Rattle.rules.specs.Minimums.{all_parts}
use Rattle.rules.specs.Rounds.{of_two, reaching, mark}

pub mark_two : (bids : List Bid) (p : ℤ) → of_two bids ≡ true → reaching all_parts bids p ≡ mark bids p
unfolding mark
mark_two bids p e = sym (cond-true (of_two bids) (reaching all_parts bids p) p e)

pub mark_one : (bids : List Bid) (p : ℤ) → of_two bids ≡ false → p ≡ mark bids p
unfolding mark
mark_one bids p e = sym (cond-false (of_two bids) (reaching all_parts bids p) p e)
