-- Why a package refuses a bid or a cut: the first cause that is there.
use Rattle.std.specs.Prelude.{ℕ, not, length, is_some, Some, None, Ok, Err, Option, Result, if◌then◌else◌, nat_le, nat_lt, ◌||◌}
use Rattle.rules.specs.declared.bid.Bid.{Bid}
use Rattle.calls.specs.Packages.{Bidding, Package}
use Rattle.book.specs.declared.errors.BidError.{BidError}
use Rattle.book.specs.declared.errors.BidError.TheVariants.{Struck, NoRoom, NoMember}
use Rattle.book.specs.declared.errors.CutError.{CutError}
use Rattle.book.specs.declared.errors.CutError.TheVariants.{OutsideLimits, NotStruck, CutAlready}

-- why a round does not take a bid
abbrev pub bid_error : Bid → Bidding → (members : ℕ) → Option BidError
bid_error b r members =
    if r.struck then Some Struck
    else (if nat_le 96 (length r.bids) then Some NoRoom
    else (if nat_le members b.member then Some NoMember else None))

-- why so many parts cannot be cut off a package
abbrev pub cut_error : (parts : ℕ) → Package → Option CutError
cut_error parts p =
    if nat_lt parts 1 || nat_lt 999999 parts then Some OutsideLimits
    else (if not p.first.struck then Some NotStruck
    else (if is_some p.residual then Some CutAlready else None))

-- it is done, unless there is a cause not to
abbrev pub done_unless : {E : Type 0} → Option E → Result (Unit {0}) E
done_unless None = Ok tt
done_unless (Some e) = Err e
