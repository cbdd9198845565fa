use Rattle.std.proofs.Common.{◌≡◌, true}
use Rattle.rules.specs.Minimums.{all_excused}
use Rattle.auction.proofs.minimums.are_all_excused.Given as goal

abbrev pub invariant-loop-a : goal.invariant-loop-a
invariant-loop-a l = all_excused l.excused l.a ≡ true
