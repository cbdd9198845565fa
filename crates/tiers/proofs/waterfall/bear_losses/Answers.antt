use Rattle.std.proofs.Common.{ℕ, ◌+◌, List, get_or, take, sym, subst, arith, take_all}
use Rattle.std.proofs.lemmas.List.{take_more}
use Rattle.tiers.specs.Waterfall.{BearsEach}
use Rattle.tiers.proofs.Settling.{bears_more, settled_each}
use Rattle.tiers.proofs.waterfall.bear_losses.Goals as goal

pub loop-loss-preserved : goal.loop-loss-preserved
loop-loss-preserved g c =
    let losses = c.args.losses.now in
    let i = c.loop-loss.loss-index in
    let p = g.P.Tier.meaning c.args.pile.now in
    let q = g.P.Tier.meaning c.loop-loss.pile in
    let s = g.P.Tier.meaning c.bear.new.self in (
      omega arith,
      subst (λ (xs : List ℕ). BearsEach p xs s (c.loop-loss.unborne + c.bear.result)) (sym (take_more losses i 0 c.loop-loss-test.true))
          (bears_more p (take i losses) q c.loop-loss.unborne (get_or losses i 0) s c.bear.result c.loop-loss.invariant.1 c.bear.ensures),
    )

pub returns : goal.returns
returns g c =
    let p = g.P.Tier.meaning c.args.pile.now in
    let q = g.P.Tier.meaning c.loop-loss.pile in
    let all : BearsEach p c.args.losses.now q c.loop-loss.unborne =
    subst (λ (xs : List ℕ). BearsEach p xs q c.loop-loss.unborne) (take_all _ _ c.loop-loss-test.false) c.loop-loss.invariant.1 in
    record { each = all; settled = settled_each p c.args.losses.now q c.loop-loss.unborne all }
