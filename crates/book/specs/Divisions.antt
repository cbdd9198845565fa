-- What the parts of a round keep.
use Rattle.std.specs.Prelude.{◌≡◌, ℕ, ◌≤◌, List, replicate, Option, slice_set, IfSome}
use Rattle.shares.specs.Sums.{at}
use Rattle.rules.specs.Rounds.{Round}
use Rattle.auction.specs.declared.division.Division.{Division}
use Rattle.auction.specs.Divisions.{Divided}

-- a row has nothing behind the members
abbrev pub Blank : (members : ℕ) → List ℕ → Type 0
Blank members row = (a : ℕ) → members ≤ a → at row a ≡ 0

-- a struck round holds how its offer is divided
abbrev pub DividedSo : Round → (offer : ℕ) → Option Division → Type 0
DividedSo r offer division = IfSome division (Divided r offer)

-- the minimums of one member, who has to bid for all parts
abbrev pub alone : List ℕ
alone = slice_set (replicate 64 0) 0 1000000
