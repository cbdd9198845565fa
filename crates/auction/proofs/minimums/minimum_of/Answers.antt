use Rattle.std.proofs.Common.{◌*◌, arith}
use Rattle.auction.proofs.Asking.{ceil_is}
use Rattle.auction.proofs.minimums.minimum_of.Goals as goal

pub returns : goal.returns
returns c = omega (arith, c.min.ensures, c.div_ceil.ensures, ceil_is (c.args.counts * c.args.multiplier * 1000) c.args.base c.requires.some)
