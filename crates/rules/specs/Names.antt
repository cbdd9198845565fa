-- Names: which bytes they may have, how they rank, and which name a number spells.
use Rattle.std.specs.Prelude.{ℕ, ◌/◌, ◌%◌, Bool, ◌&&◌, ◌||◌, List, [], ◌∷◌, nat_le}
use Rattle.std.specs.List.{list_all}
use Rattle.std.specs.declared.cmp.Ordering.TheVariants.{Less, Equal, Greater}
use Rattle.std.specs.declared.cmp.Ordering.{Ordering}
use Rattle.std.specs.Ordering.{nat_cmp, ordering_then}

-- a capital letter, 65 to 90, or a digit, 48 to 57
abbrev pub is_plain_byte : ℕ → Bool
is_plain_byte b = (nat_le 65 b && nat_le b 90) || (nat_le 48 b && nat_le b 57)

-- each byte is
abbrev pub is_plain : List ℕ → Bool
is_plain bytes = list_all is_plain_byte bytes

-- byte by byte: the first that differs decides
abbrev pub by_bytes : List ℕ → List ℕ → Ordering
by_bytes [] [] = Equal
by_bytes [] (y ∷ ys) = Less
by_bytes (x ∷ xs) [] = Greater
by_bytes (x ∷ xs) (y ∷ ys) = ordering_then (nat_cmp x y) (by_bytes xs ys)

-- the eight bytes of a number, the highest first
abbrev pub spelling : ℕ → List ℕ
spelling n =
    n / 72057594037927936 % 256 ∷ n / 281474976710656 % 256 ∷ n / 1099511627776 % 256 ∷ n / 4294967296 % 256
    ∷ n / 16777216 % 256 ∷ n / 65536 % 256 ∷ n / 256 % 256 ∷ n % 256 ∷ []
