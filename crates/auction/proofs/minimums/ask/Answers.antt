use Rattle.std.proofs.Common.{◌≡◌, ℕ, ◌*◌, ◌<◌, ◌≤◌, min, not, [], get_or, ap, ◌∙◌, arith, rules}
use Rattle.shares.specs.Sums.{at}
use Rattle.rules.specs.declared.member.Member.{Member}
use Rattle.rules.specs.Amounts.{when}
use Rattle.rules.specs.Minimums.{ceil, is_excused}
use Rattle.auction.proofs.Asking.{asked, base_some, counted_is, read_low}
use Rattle.auction.proofs.minimums.ask.Goals as goal

-- what is read past the end of the members
abbrev past : Member
past = record { name = record { bytes = [] }; contribution = 0 }

pub row_of-requires : goal.row_of-requires
row_of-requires c =
    let some : 0 < c.sum_counted-base.result = omega (arith, c.sum_counted-base.ensures.is, base_some c.args.members.now c.args.multiplier c.args.excused c.requires) in (
      search rules,
      (
        λ a h.
            let inside : a < 64 = omega (arith, c.requires.few) in
            let low : (get_or c.args.members.now a past).contribution ≤ 25000000 = read_low c.args.members.now a past c.requires.contributing h in
            search rules,
        search rules,
      ),
    )

pub returns : goal.returns
returns c =
    asked c.args.members.now c.args.multiplier c.args.excused c.sum_counted-base.result c.row_of.result c.requires c.sum_counted-base.ensures.is (record {
      shows = λ a h.
          let s = c.row_of.ensures.shows a h in
          let e : at c.row_of.result a ≡ min 1000000 (ceil (when (not (is_excused c.args.excused a)) (get_or c.args.members.now a past).contribution * c.args.multiplier * 1000) c.sum_counted-base.result) = search rules in
          e ∙ ap (λ (n : ℕ). min 1000000 (ceil (n * c.args.multiplier * 1000) c.sum_counted-base.result)) (counted_is c.args.members.now c.args.excused a past h);
      blank = c.row_of.ensures.blank;
    })
