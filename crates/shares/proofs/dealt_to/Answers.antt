use Rattle.std.proofs.Common.{◌≡◌, ℕ, zero, suc, ◌*◌, ◌/◌, ◌<◌, sym, refl, ap, ◌∙◌, arith}
use Rattle.shares.specs.Shares.{dealt}
use Rattle.shares.proofs.Sharing.{dealt_baseless}
use Rattle.shares.proofs.dealt_to.Goals as goal

rounded : (amount base sum : ℕ) → 0 < base → amount * sum / base ≡ dealt amount base sum
unfolding dealt
rounded amount zero sum h = absurd (omega arith)
rounded amount (suc b) sum h = refl

pub returns-then-base-eq0 : goal.returns-then-base-eq0
returns-then-base-eq0 c =
    let none : c.args.base ≡ 0 = omega arith in
    sym (ap (λ b. dealt c.args.amount b c.args.sum) none ∙ dealt_baseless c.args.amount c.args.sum)

pub returns : goal.returns
returns c = rw (c.from.ensures, c.from-2.ensures, c.from-3.ensures) (rounded c.args.amount c.args.base c.args.sum (omega arith))
