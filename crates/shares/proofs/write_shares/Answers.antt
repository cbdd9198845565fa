use Rattle.std.proofs.Common.{◌≡◌, ℕ, ◌+◌, ◌<◌, ◌≤◌, List, length, sym, refl, ap, ◌∙◌, arith}
use Rattle.shares.specs.Sums.{total, at}
use Rattle.shares.specs.Shares.{dealt, share}
use Rattle.shares.proofs.Totals.{total_none, total_more, total_grows}
use Rattle.shares.proofs.Writing.{row_more, row_rest}
use Rattle.shares.proofs.Sharing.{dealt_none, dealt_rises, share-behind}
use Rattle.shares.proofs.write_shares.Goals as goal

pub loop-i-init : goal.loop-i-init
loop-i-init c = (
  sym (total_none (at c.args.weights.now)),
  sym (dealt_none c.args.amount c.args.base),
  λ a h. absurd (omega arith),
  λ a h. refl,
)

-- With one weight more the sum stays within the base.
more_within : (ws : List ℕ) (base i sum : ℕ) → total (length ws) (at ws) ≤ base → i < length ws → sum ≡ total i (at ws) → sum + at ws i ≤ base
more_within ws base i sum within h e =
    omega (arith, total_more i (at ws), total_grows (i + 1) (length ws) (at ws) (omega arith))

pub overflow_add-after : goal.overflow_add-after
overflow_add-after c =
    omega (arith, more_within c.args.weights.now c.args.base c.loop-i.i c.loop-i.before c.requires.within (omega arith) (omega arith))

pub dealt_past-next-requires : goal.dealt_past-next-requires
dealt_past-next-requires c = record {
  within = omega (arith, more_within c.args.weights.now c.args.base c.loop-i.i c.loop-i.before c.requires.within (omega arith) (omega arith));
  before = λ none. c.loop-i.invariant.1 ∙ ap (dealt c.args.amount c.args.base) (omega (arith, none));
}

pub overflow_sub-shares : goal.overflow_sub-shares
overflow_sub-shares c =
    omega (arith, dealt_rises c.args.amount c.args.base c.loop-i.before (c.loop-i.before + at c.args.weights.now c.loop-i.i) (omega arith))

pub loop-i-preserved : goal.loop-i-preserved
loop-i-preserved c =
    let w = at c.args.weights.now in
    let i = c.loop-i.i in
    let room : i < length c.loop-i.shares = omega (arith, c.requires.room) in
    let here = share-behind c.args.amount c.args.base c.loop-i.before (w i) w i (sym c.loop-i.invariant.0) refl in (
      omega (arith, total_more i w),
      c.dealt_past-next.ensures,
      row_more (share c.args.amount c.args.base w) c.loop-i.shares i _ room (omega arith) c.loop-i.invariant.2,
      row_rest c.args.shares.now c.loop-i.shares i _ c.loop-i.invariant.3,
    )
