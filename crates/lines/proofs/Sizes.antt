-- No line of modest values is longer than 32 bytes.
use Rattle.std.proofs.Common.{◌≡◌, ℕ, ◌^◌, ◌<◌, ◌≤◌, List, ◌++◌, length, drop, ℤ, pos, negsuc, nat_abs, Some, codes, Option, refl, arith, length-append}
use lib.Signed.{mag}
use Rattle.std.specs.Fmt.{signed_decimal}
use Rattle.text.specs.Writing.{Tried}
use Rattle.text.proofs.Writes.{tried_whole}
use Rattle.text.proofs.Sizes.{decimal_at_most, decimal_at_most_20, signed_at_most}
use Rattle.rules.specs.declared.refusal.Refusal.{Refusal}
use Rattle.rules.specs.declared.refusal.Refusal.TheVariants.{OtherStage, NoPackage, NoMember, OutsideLimits, NameByte, NameEnrolled, NoRoom, NobodyToServe, SizesPass, NoOpenRound, NotReadyToSettle, ShortMemory}
use Rattle.rules.specs.declared.refusal.Stop.{Stop}
use Rattle.rules.specs.declared.refusal.Stop.TheVariants.{CutShort, UnknownTag, WrongLength}
use Rattle.rules.specs.Refusals.{stop_at, number}
use Rattle.rules.specs.Refusals.Cause.{refused}
use Rattle.calls.specs.declared.round_number.RoundNumber.{RoundNumber}
use Rattle.calls.specs.declared.round_number.RoundNumber.TheVariants.{First, Second}
use Rattle.lines.specs.declared.line.Line.{Line}
use Rattle.lines.specs.declared.line.Line.TheVariants.{Refused, Stopped, Round, Member, Charge, Unborne, Surplus}
use Rattle.lines.specs.Lines.{sole_line, pair_line, round_digit, round_line, member_line}
use Rattle.lines.specs.Told.{bytes_of, Modest}

-- a cause has a number of two digits at most
pub refusal_small : (r : Refusal) → number (refused r) < 100
refusal_small OtherStage = omega arith
refusal_small NoPackage = omega arith
refusal_small NoMember = omega arith
refusal_small OutsideLimits = omega arith
refusal_small NameByte = omega arith
refusal_small NameEnrolled = omega arith
refusal_small NoRoom = omega arith
refusal_small NobodyToServe = omega arith
refusal_small SizesPass = omega arith
refusal_small NoOpenRound = omega arith
refusal_small NotReadyToSettle = omega arith
refusal_small ShortMemory = omega arith

pub stop_small : (stop : Stop) (place : ℕ) → (stop_at stop place).number < 100
stop_small CutShort place = omega arith
stop_small UnknownTag place = omega arith
stop_small WrongLength place = omega arith

-- a count and a number of two digits
pub cause_fits : (word : List ℕ) (first second : ℕ) → length word ≡ 7 → first < 2 ^ 64 → second < 100 →
    length (pair_line word first second) ≤ 32
cause_fits word first second w f s =
    let a = decimal_at_most_20 first f in
    let b = decimal_at_most 2 second (omega arith) (omega arith) (omega arith) in
    simp length-append (omega arith)

-- an amount up to 10^10 either way has twelve bytes at most
mag_small : (z : ℤ) → nat_abs z ≤ 10000000000 → mag z ≤ 10000000000
mag_small (pos n) h = h
mag_small (negsuc n) h = omega arith

amount_short : (z : ℤ) → nat_abs z ≤ 10000000000 → length (signed_decimal z) ≤ 12
amount_short z h =
    let m = mag_small z h in
    signed_at_most 11 z (omega arith) (omega arith)

pub round_fits : (k : ℕ) (n : RoundNumber) (price : ℤ) → k < 256 → nat_abs price ≤ 10000000000 →
    length (round_line k n price) ≤ 32
round_fits k n price h small =
    let a = decimal_at_most 3 k (omega arith) (omega arith) (omega arith) in
    let d : round_digit n < 10 = elim n as (λ n. round_digit n < 10) [ First ↦ omega arith | Second ↦ omega arith ] in
    let b = decimal_at_most 1 (round_digit n) (omega arith) (omega arith) (omega arith) in
    let p = amount_short price small in
    simp length-append (omega arith)

pub member_fits : (name : List ℕ) (parts : ℕ) (transfer : ℤ) → length name ≡ 8 → parts ≤ 1000000 → nat_abs transfer ≤ 10000000000 →
    length (member_line name parts transfer) ≤ 32
member_fits name parts transfer eight h small =
    let a = decimal_at_most 7 parts (omega arith) (omega arith) (omega arith) in
    let t = amount_short transfer small in
    simp length-append (omega arith)

pub charge_fits : (word : List ℕ) (account charge : ℕ) → length word ≡ 6 → account < 256 → charge ≤ 10000000000 →
    length (pair_line word account charge) ≤ 32
charge_fits word account charge w h small =
    let a = decimal_at_most 3 account (omega arith) (omega arith) (omega arith) in
    let b = decimal_at_most 11 charge (omega arith) (omega arith) (omega arith) in
    simp length-append (omega arith)

pub sole_fits : (word : List ℕ) (amount : ℕ) → length word ≡ 7 → amount < 1000000000000 → length (sole_line word amount) ≤ 32
sole_fits word amount w small =
    let a = decimal_at_most 12 amount (omega arith) (omega arith) (omega arith) in
    simp length-append (omega arith)

pub line_fits : (l : Line) → Modest l → length (bytes_of l) ≤ 32
line_fits (Refused count refusal) m = cause_fits (codes "REFUSED") count _ refl m (refusal_small refusal)
line_fits (Stopped fault) m = cause_fits (codes "STOPPED") fault.place _ refl m (stop_small fault.stop fault.place)
line_fits (Round k n price) m = round_fits k n price m.0 m.1
line_fits (Member name parts transfer) m = member_fits name.bytes parts transfer m.0 m.1 m.2
line_fits (Charge account charge) m = charge_fits (codes "CHARGE") account charge refl m.0 m.1
line_fits (Unborne amount) m = sole_fits (codes "UNBORNE") amount refl m
line_fits (Surplus amount) m = sole_fits (codes "SURPLUS") amount refl m

-- a line of modest values that was tried in memory of 32 bytes stands there
pub line_told : {before after : List ℕ} (answer : Option ℕ) (l : Line) → Modest l → 32 ≤ length before →
    Tried before 0 (bytes_of l) after answer →
    (answer ≡ Some (length (bytes_of l))) × ((after ≡ bytes_of l ++ drop (length (bytes_of l)) before) × (length (bytes_of l) ≤ 32))
line_told answer l m long tried =
    let fits = line_fits l m in
    let done = tried_whole answer (omega arith) tried in
    (done.0, (done.1, fits))
