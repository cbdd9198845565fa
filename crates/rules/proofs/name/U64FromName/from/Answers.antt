use Rattle.std.proofs.Common.{ℕ, ◌<◌, get_or, rules}
use Rattle.rules.proofs.Spelled.{spelled_back}
use Rattle.rules.proofs.name.U64FromName.from.Goals as goal

pub returns : goal.returns
returns c =
    let bytes : (k : ℕ) → k < 8 → get_or c.args.name.bytes k 0 < 256 = search rules in
    spelled_back c.args.name.bytes c.from_be_bytes.result (search rules) bytes c.from_be_bytes.ensures
