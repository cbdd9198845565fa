use Rattle.std.proofs.Common.{◌-◌, ℕ, ap, subst}
use Rattle.rules.specs.Rounds.{Round}
use Rattle.auction.specs.Divisions.{Divided}
use Rattle.auction.specs.Ruled.{ruled, ruled_orderly}
use Rattle.auction.specs.Seconds.{AskedAgain}
use Rattle.auction.proofs.Composing.{sound}
use Rattle.auction.proofs.Raising.{asked_again}
use Rattle.auction.proofs.round.Round.second_minimums.Goals as goal

pub returns : goal.returns
returns c =
    let anew : Divided (ruled_orderly c.in_ok-round.round) (1000000 - c.args.residual) c.in_ok-anew.anew =
    subst (λ (n : ℕ). Divided (ruled_orderly c.in_ok-round.round) (1000000 - n) c.in_ok-anew.anew) c.in_ok-residual.ensures.0 c.in_ok-anew.ensures.1 in
    let again : AskedAgain (ruled_orderly c.in_ok-round.round) c.args.residual c.raise.result =
    asked_again (ruled_orderly c.in_ok-round.round) c.args.residual c.in_ok-anew.anew.allotments c.raise.result (sound c.in_ok-round.round) anew.allotted c.raise.ensures in
    (c.in_ok-round.ensures.0, c.in_ok-residual.ensures.1, subst (λ (r : Round). AskedAgain r c.args.residual c.raise.result) (ap ruled c.in_ok-round.ensures.1) again)
