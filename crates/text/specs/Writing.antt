-- What it means that bytes were written at a place of lent memory.
use Rattle.std.specs.Prelude.{◌≡◌, ℕ, ◌+◌, ◌<◌, ◌≤◌, List, ◌++◌, length, take, drop, Some, None, Option}

-- `after` is the memory `before` with the bytes at a place, which end at `end`; all else is kept.
pub record Written (before : List ℕ) (at : ℕ) (bytes after : List ℕ) (end : ℕ) : Type 0 where
  pub ends : end ≡ at + length bytes
  pub room : end ≤ length before
  pub size : length after ≡ length before
  pub front : take end after ≡ take at before ++ bytes
  pub rest : drop end after ≡ drop end before

-- There is no room for the bytes at the place, and the memory is kept.
pub record Refused (before : List ℕ) (at : ℕ) (bytes after : List ℕ) : Type 0 where
  pub short : length before < at + length bytes
  pub kept : after ≡ before

-- The bytes are written and the answer is where they end, or there is no room.
abbrev pub Put : List ℕ → ℕ → List ℕ → List ℕ → Option ℕ → Type 0
Put before at bytes after (Some end) = Written before at bytes after end
Put before at bytes after None = Refused before at bytes after

-- Several texts were put one after another: all are written, or there is no room for them all, and some may stand there.
pub record Tried (before : List ℕ) (at : ℕ) (bytes after : List ℕ) (answer : Option ℕ) : Type 0 where
  pub written : (end : ℕ) → answer ≡ Some end → Written before at bytes after end
  pub short : answer ≡ None → length before < at + length bytes
