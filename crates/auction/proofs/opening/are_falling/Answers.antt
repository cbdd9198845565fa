use Rattle.std.proofs.Common.{int_le, rules}
use Rattle.std.proofs.lemmas.List.Sorted.{answers_always}
use Rattle.rules.specs.declared.bid.Bid.{Bid}
use Rattle.auction.proofs.Falling.{tested}
use Rattle.auction.proofs.opening.are_falling.Goals as goal

pub returns : goal.returns
returns c =
    let e = tested c.args.bids.now c.is_sorted_by.result
    (c.is_sorted_by.ensures.cases (λ (x y : Bid). int_le y.price x.price) (answers_always _ _ _ (λ f a r g h. search rules))) in
    record { yes = e.0; not = e.1 }
