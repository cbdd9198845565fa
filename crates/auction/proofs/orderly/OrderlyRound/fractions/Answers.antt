use Rattle.std.proofs.Common.{◌≡◌, ℕ, ◌<◌, ◌≤◌, ap, ◌∙◌, arith, rules}
use Rattle.rules.specs.Fractions.{fraction_of, round_fraction}
use Rattle.rules.proofs.Dividing.{shortfall_within}
use Rattle.rules.proofs.Shortness.{round_fraction_bounded}
use Rattle.shares.specs.Sums.{at}
use Rattle.auction.specs.Rows.{Row}
use Rattle.auction.specs.Ruled.{ruled_orderly}
use Rattle.auction.proofs.orderly.OrderlyRound.fractions.Goals as goal

pub row_of-requires : goal.row_of-requires
row_of-requires c =
    let within : (a : ℕ) → a < c.args.self.now.round.members → at c.shortfalls-shortfalls.result a ≤ at c.args.self.now.round.minimums a =
    λ a h. omega (arith, c.shortfalls-shortfalls.ensures.is.shows a h, shortfall_within (ruled_orderly c.args.self.now) a) in
    search rules

pub returns : goal.returns
unfolding round_fraction
returns c =
    let is : Row c.args.self.now.round.members (round_fraction (ruled_orderly c.args.self.now)) c.row_of.result =
    record {
      shows = λ a h.
          let s = c.row_of.ensures.shows a h in
          let e : at c.row_of.result a ≡ fraction_of (at c.shortfalls-shortfalls.result a) (at c.args.self.now.round.minimums a) = search rules in
          e ∙ ap (λ (n : ℕ). fraction_of n (at c.args.self.now.round.minimums a)) (c.shortfalls-shortfalls.ensures.is.shows a h);
      blank = c.row_of.ensures.blank;
    } in
    record { is = is; low = λ a h. omega (arith, is.shows a h, round_fraction_bounded (ruled_orderly c.args.self.now) a) }
