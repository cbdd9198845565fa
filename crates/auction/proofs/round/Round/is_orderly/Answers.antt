use Rattle.std.proofs.Common.{◌≤◌, length, arith, rules}
use Rattle.rules.specs.Rounds.{OfMembers}
use Rattle.auction.specs.Orderly.{Falling}
use Rattle.auction.proofs.Showing.{front_low, front_total, low_front}
use Rattle.auction.proofs.round.Round.is_orderly.Goals as goal
use Rattle.auction.proofs.round.Round.is_orderly.Goals.{then-self-le-MOST_BIDS, else-self-le-MOST_BIDS, then-self-le-MOST_MEMBERS, else-self-le-MOST_MEMBERS, then-are_falling, else-are_falling}

pub returns-then-are_of_members : goal.returns-then-are_of_members
returns-then-are_of_members c =
    let before : (length c.args.self.now.bids.now ≤ 96) × (c.args.self.now.members ≤ 64) × Falling c.args.self.now.bids.now × OfMembers c.args.self.now.members c.args.self.now.bids.now =
    elim c.if-are_falling.branch [
      | then-are_falling w ↦ elim c.if-self-le-MOST_MEMBERS.branch [
        | then-self-le-MOST_MEMBERS v ↦ elim c.if-self-le-MOST_BIDS.branch [
          | then-self-le-MOST_BIDS u ↦ (search rules, search rules, search rules, search rules)
          | else-self-le-MOST_BIDS u ↦ absurd (search rules)
        ]
        | else-self-le-MOST_MEMBERS v ↦ absurd (search rules)
      ]
      | else-are_falling w ↦ absurd (search rules)
    ] in
    let n = c.args.self.now.members in
    let row = c.args.self.now.minimums in
    let room : c.args.self.now.members ≤ length c.args.self.now.minimums = omega (arith, before.1) in
    record {
      yes = λ e.
          let reach = c.reach_whole.ensures.yes e in
          record { few = before.0; seats = before.1; low = front_low n row room reach.0; ranked = before.2; known = before.3; covered = omega (arith, reach.1, front_total n row room) };
      not = λ e o. c.reach_whole.ensures.not e (low_front n row room o.low) (omega (arith, o.covered, front_total n row room));
    }
