-- The minimums of one member alone.
use Rattle.std.proofs.Common.{◌≡◌, ℕ, zero, suc, replicate, refl, arith, lit≤}
use Rattle.shares.specs.Sums.{at, total}
use Rattle.auction.specs.Orderly.{Covering}
use Rattle.book.specs.Divisions.{Blank, alone}

pub alone_covers : Covering 1 alone
unfolding total
alone_covers = lit≤ tt

all_none : (n a : ℕ) → at (replicate n 0) a ≡ 0
all_none zero a = refl
all_none (suc n) zero = refl
all_none (suc n) (suc a) = all_none n a

pub alone_spare : Blank 1 alone
alone_spare zero h = absurd (omega arith)
alone_spare (suc a) h = all_none 63 a
