use Rattle.std.proofs.Common.{◌*◌, ◌≤◌, take}
use Rattle.tiers.specs.Waterfall.{BearsEach}
use Rattle.tiers.proofs.waterfall.bear_losses.Given as goal

abbrev pub invariant-loop-loss : goal.invariant-loop-loss
invariant-loop-loss g l =
    (l.unborne ≤ 18446744073709551615 * l.loss-index)
    × BearsEach (g.P.Tier.meaning l.initial.pile) (take l.loss-index l.losses) (g.P.Tier.meaning l.pile) l.unborne
