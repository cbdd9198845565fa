-- The lines that a report has still to give, and what the next one leaves in memory.
use Rattle.std.specs.Prelude.{ℕ, ◌+◌, ◌-◌, Bool, cond, List, [], ◌∷◌, ◌++◌, length, drop, Some, None, Ok, Err, Option, Result, nat_lt}
use Rattle.callfile.specs.Readings.{reading_from}
use Rattle.lines.specs.Told.{bytes_of}
use Rattle.lines.specs.declared.line.Line.{Line}
use Rattle.record.specs.Look.{state}
use Rattle.rules.specs.declared.refusal.Refusal.{Refusal}
use Rattle.rules.specs.declared.refusal.Refusal.TheVariants.{ShortMemory}
use Rattle.report.specs.declared.report.Report.{Report}
use Rattle.report.specs.Statement.{lines_of}

-- the file that a report is of
abbrev pub file_of : Report → List ℕ
file_of r = r.reader.file.now

-- the lines to come
abbrev pub left : Report → List (List ℕ)
left r = cond r.ended [] (lines_of (state r.ledger) r.count (reading_from (file_of r) r.reader.place))

-- how much may still be read: nothing once the reading has ended
abbrev pub ahead : Report → ℕ
ahead r = cond r.ended 0 (length (file_of r) - r.reader.place + 1)

-- the bytes of what there is to tell, if there is anything
abbrev pub told_of : Option Line → List (List ℕ)
told_of None = []
told_of (Some line) = bytes_of line ∷ []

abbrev pub is_short : List ℕ → Bool
is_short memory = nat_lt (length memory) 32

-- what is answered of the next line: its length, or absence where there is none
abbrev pub length_of_next : List (List ℕ) → Option ℕ
length_of_next [] = None
length_of_next (l ∷ ls) = Some (length l)

-- memory with the next line at its front, and all else kept
abbrev pub with_next : List (List ℕ) → List ℕ → List ℕ
with_next [] memory = memory
with_next (l ∷ ls) memory = l ++ drop (length l) memory

abbrev pub after_next : List (List ℕ) → List (List ℕ)
after_next [] = []
after_next (l ∷ ls) = ls

-- short memory is refused first; nothing changes then
abbrev pub answered : List (List ℕ) → List ℕ → Result (Option ℕ) Refusal
answered lines memory = cond (is_short memory) (Err ShortMemory) (Ok (length_of_next lines))

abbrev pub written : List (List ℕ) → List ℕ → List ℕ
written lines memory = cond (is_short memory) memory (with_next lines memory)

abbrev pub remaining : List (List ℕ) → List ℕ → List (List ℕ)
remaining lines memory = cond (is_short memory) lines (after_next lines)
