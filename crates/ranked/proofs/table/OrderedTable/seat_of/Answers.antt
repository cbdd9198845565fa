use Rattle.std.proofs.Common.{sym, ap, not, vec_items, ◌∙◌}
use Rattle.std.specs.List.{prefix_len}
use Rattle.std.specs.Ordering.{is_lt}
use Rattle.ranked.proofs.Scans.{behind_is}
use Rattle.ranked.proofs.table.OrderedTable.seat_of.Goals as goal

pub returns : goal.returns
returns g c =
    let cmp = g.T.Rank.ranks in
    c.ahead_of.ensures ∙ ap (prefix_len (λ y. not (is_lt (cmp c.args.x.now y)))) c.as_slice.ensures ∙ sym (behind_is cmp c.args.x.now (vec_items c.args.self.now.records))
