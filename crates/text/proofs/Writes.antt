-- One text after another at a place of memory.
use Rattle.std.proofs.Common.{◌≡◌, ℕ, ◌+◌, ◌-◌, ◌≤◌, List, ◌++◌, length, take, drop, Some, None, Option, sym, refl, ap, ◌∙◌, subst, append_assoc, zero-add, arith, length-append, take-append-drop}
use borrow.Rule.Slice.PartMut.{put_mid}
use Rattle.std.proofs.lemmas.List.{drop-drop}
use Rattle.std.proofs.lemmas.Slice.{take-put_mid, drop-put_mid}
use Rattle.text.specs.Writing.{Written, Refused, Put, Tried}

-- One text after another.
pub written_then : {before middle after xs ys : List ℕ} {at between end : ℕ} →
    Written before at xs middle between → Written middle between ys after end → Written before at (xs ++ ys) after end
written_then {before} {middle} {after} {xs} {ys} {at} {between} {end} a b = record {
  ends = simp length-append (omega (arith, a.ends, b.ends));
  room = omega (arith, a.size, b.room);
  size = b.size ∙ a.size;
  front = b.front ∙ ap (λ z. z ++ ys) a.front ∙ append_assoc (take at before) xs ys;
  rest =
      let e : end ≡ between + (end - between) = omega (arith, b.ends) in
      let f = drop-drop (end - between) between middle in
      let g = drop-drop (end - between) between before in
      b.rest ∙ (ap (λ i. drop i middle) e ∙ (sym f ∙ (ap (drop (end - between)) a.rest ∙ (g ∙ ap (λ i. drop i before) (sym e)))));
}

-- Written from the start, the bytes are the front of the memory.
pub written_whole : {before after bytes : List ℕ} {end : ℕ} → Written before 0 bytes after end → after ≡ bytes ++ drop (length bytes) before
written_whole {before} {after} {bytes} {end} a =
    let e : end ≡ length bytes = omega (arith, a.ends) in
    sym (take-append-drop end after) ∙ (ap (λ z. z ++ drop end after) a.front ∙ (ap (λ z. bytes ++ z) a.rest ∙ ap (λ i. bytes ++ drop i before) e))

never : {A : Type 0} {n : ℕ} → Some n ≡ None → A
never e = let z : ◌≡◌ {A = ℕ} 0 1 = cc in absurd (omega arith)

-- One text was put.
pub tried_last : {before after bytes : List ℕ} {at : ℕ} (answer : Option ℕ) → Put before at bytes after answer → Tried before at bytes after answer
tried_last {before} {after} {bytes} {at} (Some end) p = record {
  written = λ e same. (let k : end ≡ e = cc in let P : ℕ → Type 0 = λ e. Written before at bytes after e in subst P k p);
  short = λ same. never same;
}
tried_last None p = record { written = λ e same. never (sym same); short = λ _. p.short }

-- A text was written, and more was tried after it.
pub tried_then : {before middle after xs ys : List ℕ} {at between : ℕ} {answer : Option ℕ} →
    Written before at xs middle between → Tried middle between ys after answer → Tried before at (xs ++ ys) after answer
tried_then a b = record {
  written = λ end same. written_then a (b.written end same);
  short = λ same. simp length-append (omega (arith, a.ends, a.size, b.short same));
}

-- At the exit of a `?`: there was no room for one text, so there is none for it and more.
pub tried_short : {before middle after xs : List ℕ} (ys : List ℕ) {at : ℕ} {answer : Option ℕ} →
    answer ≡ None → Refused before at xs middle → Tried before at (xs ++ ys) after answer
tried_short ys e a = record {
  written = λ end same. never (sym same ∙ e);
  short = λ _. simp length-append (omega (arith, a.short));
}

-- Where there is room for all of it, all of it was written.
pub tried_room : {before after bytes : List ℕ} {at : ℕ} (answer : Option ℕ) → at + length bytes ≤ length before → Tried before at bytes after answer →
    (answer ≡ Some (at + length bytes)) × Written before at bytes after (at + length bytes)
tried_room {before} {after} {bytes} {at} (Some end) h a =
    let w = a.written end refl in
    let P : ℕ → Type 0 = λ e. Written before at bytes after e in
    (ap Some w.ends, subst P w.ends w)
tried_room None h a = absurd (omega (arith, a.short refl))

-- The same from the start of the memory.
pub tried_whole : {before after bytes : List ℕ} (answer : Option ℕ) → length bytes ≤ length before → Tried before 0 bytes after answer →
    (answer ≡ Some (length bytes)) × (after ≡ bytes ++ drop (length bytes) before)
tried_whole {before} {after} {bytes} answer h a =
    let done = tried_room answer (rw zero-add h) a in
    (done.0 ∙ ap Some (zero-add (length bytes)), written_whole done.1)

-- A part of the memory is overwritten by the bytes.
pub written_text : (before part bytes : List ℕ) (at end : ℕ) → end ≡ at + length bytes → end ≤ length before → part ≡ bytes →
    length (put_mid at (end - at) before part) ≡ length before → Written before at bytes (put_mid at (end - at) before part) end
written_text before part bytes at end ends room same size =
    let k : length part ≡ length bytes = ap length same in
    record {
      ends = ends;
      room = room;
      size = size;
      front = take-put_mid at _ before part _ (omega arith) (omega arith) ∙ ap (λ z. take at before ++ z) same;
      rest = drop-put_mid at _ before part _ (omega arith) (omega arith) (omega arith);
    }
