-- How members rank, and who is on a roll under a name or a number.
use Rattle.std.specs.Prelude.{ℕ, cond, List, length, Some, None, Option, nat_lt, slice_index_or}
use Rattle.std.specs.declared.cmp.Ordering.{Ordering}
use Rattle.ranked.specs.Order.{found}
use Rattle.rules.specs.Names.{by_bytes, spelling}
use Rattle.rules.specs.declared.name.Name.{Name}
use Rattle.rules.specs.declared.member.Member.{Member}

-- in byte order of name
abbrev pub by_name : Member → Member → Ordering
by_name a b = by_bytes a.name.bytes b.name.bytes

abbrev pub named : Name → Member
named name = record { name = name; contribution = 0 }

-- the place of the member with this name
abbrev pub place_of : Name → List Member → Option ℕ
place_of name members = found by_name (named name) members

-- a default for reading a list of members
abbrev pub nobody : Member
nobody = named (record { bytes = spelling 0 })

-- the member at a place
abbrev pub member_at : List Member → ℕ → Option Member
member_at members i = cond (nat_lt i (length members)) (Some (slice_index_or members i nobody)) None
