use Rattle.std.proofs.Common.{sym, ap, vec_items, ◌∙◌, subst}
use Rattle.std.specs.List.{position}
use Rattle.std.specs.Ordering.{is_eq}
use Rattle.ranked.proofs.Scans.{found_is, found_first}
use Rattle.ranked.specs.Order.{FirstLevel}
use Rattle.ranked.proofs.table.OrderedTable.place_of.Goals as goal

pub returns : goal.returns
returns g c =
    let cmp = g.T.Rank.ranks in
    let xs = vec_items c.args.self.now.records in
    let is = c.first_level.ensures ∙ ap (position (λ y. is_eq (cmp c.args.x.now y))) c.as_slice.ensures ∙ sym (found_is cmp c.args.x.now xs) in
    record { value = is; first = subst (FirstLevel cmp c.args.x.now xs) (sym is) (found_first cmp c.args.x.now xs) }
