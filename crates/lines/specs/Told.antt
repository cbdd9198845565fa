-- The bytes of what a line tells of, and which values fit a line of 32 bytes.
use Rattle.std.specs.Prelude.{◌≡◌, ℕ, ◌^◌, ◌<◌, ◌≤◌, List, length, unsigned_abs}
use Rattle.lines.specs.declared.line.Line.{Line}
use Rattle.lines.specs.declared.line.Line.TheVariants.{Refused, Stopped, Round, Member, Charge, Unborne, Surplus}
use Rattle.lines.specs.Lines.{refused_line, stopped_line, round_line, member_line, charge_line, unborne_line, surplus_line}

abbrev pub bytes_of : Line → List ℕ
bytes_of (Refused count refusal) = refused_line count refusal
bytes_of (Stopped fault) = stopped_line fault
bytes_of (Round k n price) = round_line k n price
bytes_of (Member name parts transfer) = member_line name.bytes parts transfer
bytes_of (Charge account charge) = charge_line account charge
bytes_of (Unborne amount) = unborne_line amount
bytes_of (Surplus amount) = surplus_line amount

-- no number is longer than a statement has it: then 32 bytes suffice
abbrev pub Modest : Line → Type 0
Modest (Refused count refusal) = count < 2 ^ 64
Modest (Stopped fault) = fault.place < 2 ^ 64
Modest (Round k n price) = (k < 256) × (unsigned_abs price ≤ 10000000000)
Modest (Member name parts transfer) = (length name.bytes ≡ 8) × (parts ≤ 1000000) × (unsigned_abs transfer ≤ 10000000000)
Modest (Charge account charge) = (account < 256) × (charge ≤ 10000000000)
Modest (Unborne amount) = amount < 1000000000000
Modest (Surplus amount) = amount < 1000000000000
