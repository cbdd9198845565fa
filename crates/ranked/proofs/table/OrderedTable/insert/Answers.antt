use Rattle.std.proofs.Common.{◌≡◌, true, cond, is_ok, vec_items, refl, ap, ◌∙◌, arith, rules}
use Rattle.std.specs.List.{insert}
use Rattle.ranked.proofs.Arrivals.{behind-le, arrived}
use Rattle.ranked.proofs.table.OrderedTable.insert.Goals as goal

pub insert-requires : goal.insert-requires
insert-requires g c = omega (arith, c.args.self.now.records.ok.0, c.seat_of-i.ensures, behind-le g.T.Rank.ranks c.args.x (vec_items c.args.self.now.records))

pub returns : goal.returns
returns g c =
    let v = c.args.self.now.records in
    let xs = vec_items v in
    let ok : is_ok c.insert.result ≡ true = search rules in
    let e : vec_items c.insert.new.self ≡ insert xs c.seat_of-i.result c.args.x =
    c.insert.ensures.items ∙ ap (λ b. cond b (insert xs c.seat_of-i.result c.args.x) xs) ok in
    let at = c.seat_of-i.ensures in
    let done = arrived g.met.T.Rank.ordered c.args.x xs _ (e ∙ ap (λ i. insert xs i c.args.x) at) in
    record {
      limit = refl;
      in_order = done.in_order;
      arrived = (omega (arith, v.ok.0), at, done);
    }
