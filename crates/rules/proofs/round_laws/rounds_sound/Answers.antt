use Rattle.rules.proofs.Soundness.{first_sound, second_sound}
use Rattle.rules.proofs.round_laws.rounds_sound.Goals as goal

pub returns : goal.returns
returns c = record { first = first_sound; second = second_sound }
