-- Fields: a tag, the length of the value in two bytes, and the value.
use Rattle.std.specs.Prelude.{ℕ, cond, List, [], ◌∷◌, ◌++◌, length, take, Some, None, Option, nat_le}
use Rattle.callfile.specs.Numbers.{number_of, in_bytes}

-- what a field says
pub record Tagged : Type 0 where
  pub tag : ℕ
  pub value : List ℕ

abbrev pub tagged : ℕ → List ℕ → Tagged
tagged t v = record { tag = t; value = v }

-- the bytes of a field
abbrev pub laid : Tagged → List ℕ
laid f = f.tag ∷ (in_bytes 2 (length f.value) ++ f.value)

-- a field with a value of n bytes, behind whose length stand these bytes: none where they are too few
abbrev pub headed : ℕ → ℕ → List ℕ → Option Tagged
headed t n bytes = cond (nat_le n (length bytes)) (Some (tagged t (take n bytes))) None

-- the field at the front of these bytes: none where it is cut short
abbrev pub front : List ℕ → Option Tagged
front [] = None
front (t ∷ []) = None
front (t ∷ high ∷ []) = None
front (t ∷ high ∷ low ∷ bytes) = headed t (number_of (high ∷ low ∷ [])) bytes
