use Rattle.std.proofs.Common.{List, sym, subst, arith}
use Rattle.ranked.specs.Table.{listed}
use Rattle.rules.specs.declared.bid.Bid.{Bid}
use Rattle.rules.specs.Rounds.{OfMembers}
use Rattle.rules.proofs.Soundness.{prices_fall}
use Rattle.book.proofs.Joined.{arrived_by, in_order, known_arrive}
use Rattle.book.proofs.round.BookRound.take.Goals as goal

pub invariant_of-self-clause-known : goal.invariant_of-self-clause-known
invariant_of-self-clause-known c =
    let old = c.args.self.now in
    let is = arrived_by c.args.bid c.insert.result old.bids.limit (listed old.bids) (listed c.insert.new.self) (omega (arith, old.room)) c.insert.ensures.arrived in
    subst (λ (xs : List Bid). OfMembers old.terms.members xs) (sym is) (known_arrive old.terms.members c.args.bid (listed old.bids) (omega arith) old.known)

pub invariant_of-self-clause-ranked : goal.invariant_of-self-clause-ranked
invariant_of-self-clause-ranked c = prices_fall (listed c.insert.new.self) (c.insert.ensures.in_order (in_order (listed c.args.self.now.bids) c.args.self.now.ranked))
