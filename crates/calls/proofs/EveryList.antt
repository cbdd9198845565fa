-- The law of every list of calls.
use mathlib.Core.Logic.{∥∥₁_map}
use Rattle.calls.specs.State.{State}
use Rattle.calls.specs.Calls.{after, Came}
use Rattle.calls.specs.Laws.{EveryList, Lawful}
use Rattle.calls.proofs.Keeping.{bounded}
use Rattle.calls.proofs.Telling.{roll, opened, rounds_told}
use Rattle.calls.proofs.HeldRounds.{each_divided}
use Rattle.calls.proofs.Settling.{stands}

pub every_list : EveryList
every_list h f =
    let b = bounded h f in
    let p = stands h f in
    record {
      bounded = b;
      roll = roll h;
      packages = opened h;
      rounds = rounds_told h f;
      divided = each_divided (after h) b;
      once = p.once;
      unsettled = p.none;
      settled = p.each;
    }

pub lawful : {s : State} → Came s → Lawful s
lawful came = ∥∥₁_map came (λ p. (p.0, (p.1.0, (p.1.1, every_list p.0 p.1.0))))
