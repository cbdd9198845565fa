-- What an ordered table holds.
use Rattle.std.specs.Prelude.{List, vec_items}
use Rattle.ranked.specs.declared.table.OrderedTable.{OrderedTable}

abbrev pub listed : {T : Type 0} → OrderedTable T → List T
listed t = vec_items t.records
