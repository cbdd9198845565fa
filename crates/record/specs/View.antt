-- What the parts of a record stand for.
use Rattle.std.specs.Prelude.{ℕ, List}
use Rattle.rules.specs.State.{State}
use Rattle.rules.specs.declared.member.Member.{Member}
use Rattle.rules.specs.declared.stage.Stage.{Stage}

abbrev pub state_of : ℕ → Stage → List Member → State
state_of multiplier stage members = record { multiplier = multiplier; stage = stage; members = members }
