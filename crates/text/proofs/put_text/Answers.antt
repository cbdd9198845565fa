use Rattle.std.proofs.Common.{rules}
use Rattle.text.proofs.Writes.{written_text}
use Rattle.text.proofs.put_text.Goals as goal

pub returns : goal.returns
returns c = let e = c.in_ok-end.ensures in written_text _ _ _ _ _ e.0 e.1 c.copy_from_slice.ensures.after (search rules)
