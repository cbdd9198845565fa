use Rattle.std.proofs.Common.{◌≡◌, ℕ, ◌≤◌, cond, List, length, nat_lt, sym, refl, ap, ◌∙◌, Ok, Err, arith}
use Rattle.std.proofs.lemmas.Bool.{leb-true, le-ltb}
use Rattle.shares.specs.Outcomes.{sharing}
use Rattle.shares.specs.declared.Unshared.TheVariants.{FewPlaces, PastBase}
use Rattle.shares.specs.Sums.{total, at}
use Rattle.shares.specs.Shares.{share}
use Rattle.shares.proofs.Totals.{total_same}
use Rattle.shares.proofs.Sharing.{shares_whole, share_within}
use Rattle.shares.proofs.share_out.Goals as goal

-- weights that have their places and are within the base are shared out
shared : (base : ℕ) (weights places : List ℕ) → length weights ≤ length places → total (length weights) (at weights) ≤ base → Ok tt ≡ sharing base weights places
shared base weights places room within =
    sym (ap (λ b. cond b (Err FewPlaces) (cond (nat_lt base (total (length weights) (at weights))) (Err PastBase) (Ok tt))) (le-ltb (length places) (length weights) room)
    ∙ ap (λ b. cond b (Err PastBase) (Ok tt)) (le-ltb base (total (length weights) (at weights)) within))

pub returns : goal.returns
returns c =
    let ws = c.args.weights.now in
    let n = length ws in
    let amount = c.args.amount in
    let base = c.args.base in
    let within = leb-true _ _ (sym c.if-not-within.ensures) in
    let each = c.write_shares.ensures.each in
    record {
      is = shared base ws c.args.shares.now (omega arith) within;
      accepts = λ _. refl;
      fits = λ _. record { room = omega arith; within = within };
      each = λ _. each;
      rest = c.write_shares.ensures.rest;
      size = c.write_shares.auto.shares;
      refused = λ why e. cc;
      whole = λ _ some sum. total_same n _ (share amount base (at ws)) each ∙ shares_whole amount base (at ws) n some sum;
      low = λ _ small a h. omega (arith, each a h, share_within amount base (at ws) a small);
    }
