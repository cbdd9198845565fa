use Rattle.shares.proofs.Sharing.{dealt_none, dealt_rises, dealt_within, dealt_whole, dealt_of_base}
use Rattle.shares.proofs.laws.dealt_laws_hold.Goals as goal

pub returns : goal.returns
returns c = record { none = dealt_none; rises = dealt_rises; within = dealt_within; whole = dealt_whole; of_base = dealt_of_base }
