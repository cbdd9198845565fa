-- What each member has to bid for in a first round: its minimum.
use Rattle.std.specs.Prelude.{ℕ, zero, suc, ◌+◌, ◌-◌, ◌*◌, ◌/◌, ◌%◌, ◌^◌, min, Bool, true, not, ◌&&◌, List, length, ◌==◌, slice_index_or}
use Rattle.shares.specs.Sums.{total}
use Rattle.rules.specs.declared.member.Member.{Member}
use Rattle.rules.specs.Amounts.{when}
use Rattle.rules.specs.Members.{nobody}

-- what a round opens with: a part is a millionth of it
abbrev pub all_parts : ℕ
all_parts = 1000000

-- the contribution of member a
abbrev pub contributed : List Member → ℕ → ℕ
contributed members a = (slice_index_or members a nobody).contribution

-- bit a of a set excuses member a
abbrev pub is_excused : (set : ℕ) → ℕ → Bool
is_excused set a = (set / 2 ^ a % 2) == 1

-- a set excuses each of the first n members
abbrev pub all_excused : (set : ℕ) → ℕ → Bool
all_excused set zero = true
all_excused set (suc n) = is_excused set n && all_excused set n

-- the contribution of member a as it counts for minimums: 0 if the member is excused
abbrev pub counted : List Member → (excused : ℕ) → ℕ → ℕ
counted members excused a = when (not (is_excused excused a)) (contributed members a)

-- a quotient, rounded up
unfoldable pub ceil : ℕ → ℕ → ℕ
ceil n k = (n + (k - 1)) / k

-- the minimum of member a, of as many members as `count`, of whose contributions w counts; the multiplier is in thousandths
unfoldable pub minimum_of : (count : ℕ) → (w : ℕ → ℕ) → (multiplier : ℕ) → ℕ → ℕ
minimum_of count w multiplier a = min all_parts (ceil (w a * multiplier * 1000) (total count w))

-- the minimum of member a in a first round
abbrev pub first_minimum : List Member → (multiplier excused : ℕ) → ℕ → ℕ
first_minimum members multiplier excused = minimum_of (length members) (counted members excused) multiplier
