-- The terms of a round, whatever bids come.
use Rattle.std.specs.Prelude.{ℕ, List, ℤ}
use Rattle.shares.specs.Sums.{at}
use Rattle.rules.specs.declared.bid.Bid.{Bid}
use Rattle.rules.specs.Rounds.{Round}
use Rattle.book.specs.declared.terms.Terms.{Terms as Data}

pub record Terms : Type 0 where
  pub members : ℕ
  pub minimum : ℕ → ℕ
  pub reference : ℤ
  pub margin : ℕ

abbrev pub terms_in : Round → Terms
terms_in r = record { members = r.members; minimum = r.minimum; reference = r.reference; margin = r.margin }

-- the round with these bids
abbrev pub round_with : Terms → List Bid → Round
round_with t bids = record { members = t.members; minimum = t.minimum; bids = bids; reference = t.reference; margin = t.margin }

-- what the terms that a round holds stand for
abbrev pub terms_held : Data → Terms
terms_held t = record { members = t.members; minimum = at t.minimums; reference = t.reference; margin = t.margin }
