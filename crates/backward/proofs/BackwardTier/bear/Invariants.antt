use Rattle.backward.proofs.Charging.{Turned}
use Rattle.backward.proofs.BackwardTier.bear.Given as goal

abbrev pub invariant-loop-i : goal.invariant-loop-i
invariant-loop-i l = Turned l.initial.accounts l.amount l.i l.accounts l.rest
