use Rattle.std.proofs.Common.{◌≡◌, rules, w64, to_z, of_z}
use Rattle.auction.specs.Seconds.{AskedAgain}
use Rattle.rules.specs.Residuals.{cut_margin, cut_reference}
use Rattle.book.specs.HeldRounds.{round_held}
use Rattle.book.proofs.Opened.{second_is}
use Rattle.book.proofs.round.BookRound.second_terms.Goals as goal

pub returns : goal.returns
returns c =
    let first = c.args.self.now in
    let asked : AskedAgain (round_held first).round c.args.residual c.unwrap.result = search rules in
    let reference : to_z w64 (of_z w64 c.unwrap-2.result) ≡ cut_reference c.args.residual first.terms.reference = search rules in
    let margin : c.unwrap-3.result ≡ cut_margin c.args.residual first.terms.margin = search rules in
    second_is (round_held first).round c.args.residual _ c.unwrap.result _ first.terms.spare asked reference margin
