use Rattle.std.proofs.Common.{sym, refl, arith}
use Rattle.callfile.proofs.Steps.{decode_is, moved_is, decode_end, moved_end}
use Rattle.callfile.proofs.reader.ReaderIterator.next.Goals as goal

pub returns-then-place-self-clause-steps : goal.returns-then-place-self-clause-steps
returns-then-place-self-clause-steps c = record { file = refl; answer = sym (decode_end _ _ (omega arith)); place = sym (moved_end _ _ (omega arith)) }

pub returns-in-Ok-clause-steps : goal.returns-in-Ok-clause-steps
returns-in-Ok-clause-steps c = record { file = refl; answer = decode_is _ _ _ (omega arith) c.in-Ok.ensures; place = moved_is _ _ _ c.in-Ok.ensures }

pub returns-in-Err-clause-steps : goal.returns-in-Err-clause-steps
returns-in-Err-clause-steps c = record { file = refl; answer = decode_is _ _ _ (omega arith) c.in-Err.ensures; place = moved_is _ _ _ c.in-Err.ensures }
