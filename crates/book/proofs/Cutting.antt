-- The rounds of a package stay the rounds of the rules, whatever comes in the second.
use Rattle.std.proofs.Common.{◌≡◌, ℕ, ◌≤◌, true, [], Some, None, Option, ap, ◌∙◌}
use Rattle.rules.specs.Residuals.{second_round}
use Rattle.calls.specs.Held.{Held}
use Rattle.book.specs.declared.packages.Package.{Package}
use Rattle.book.specs.Cuts.{Cut, CutSo}
use Rattle.book.specs.HeldRounds.{round_held}
use Rattle.book.specs.Terms.{Terms, terms_in}

pub after : (first second : Held) (parts : ℕ) → Cut first second parts → second.round ≡ second_round first.round parts second.round.bids
after first second parts h = λ i. record {
  members = h.members i;
  minimum = λ a. h.minimum a i;
  bids = second.round.bids;
  reference = h.reference i;
  margin = h.margin i;
}

-- the second has the terms that the rules give it
pub cut_by : (first second : Held) (parts : ℕ) → 1 ≤ parts → parts ≤ 999999 → first.struck ≡ true → terms_in second.round ≡ terms_in (second_round first.round parts []) → Cut first second parts
cut_by first second parts least most struck e = record {
  least = least;
  most = most;
  struck = struck;
  members = ap (λ (t : Terms). t.members) e;
  minimum = λ a. ap (λ (t : Terms). t.minimum a) e;
  reference = ap (λ (t : Terms). t.reference) e;
  margin = ap (λ (t : Terms). t.margin) e;
}

kept_so : (residual : Option ℕ) (first second new : Held) → terms_in new.round ≡ terms_in second.round → CutSo residual first second → CutSo residual first new
kept_so None first second new e h = tt
kept_so (Some parts) first second new e h = cut_by first new parts h.least h.most h.struck (e ∙ ap terms_in (after first second parts h))

-- and keeps them
pub cut_kept : (p : Package) (new : Held) → terms_in new.round ≡ terms_in (round_held p.second).round → CutSo p.residual (round_held p.first) new
cut_kept p new e = kept_so p.residual (round_held p.first) (round_held p.second) new e p.cut
