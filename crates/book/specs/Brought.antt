-- What the rounds of a package bring, and how far a member fell short in them.
use Rattle.std.specs.Prelude.{ℕ, cond, not, ℤ, pos, ◌+ℤ◌, Some, None, Option, nat_lt}
use Rattle.rules.specs.Rounds.{Round}
use Rattle.rules.specs.Fractions.{PackageRounds, package_fraction}
use Rattle.rules.specs.Fractions.PackageRounds.{first_only, with_residual}
use Rattle.calls.specs.declared.round_number.RoundNumber.TheVariants.{First, Second}
use Rattle.calls.specs.Answers.{when_so}
use Rattle.calls.specs.Held.{Held, brought_by, is_open}
use Rattle.book.specs.declared.packages.Package.{Package}
use Rattle.book.specs.HeldPackages.{first_round_of, held_by, package_of, terms_of}
use Rattle.book.specs.HeldRounds.{round_held}

-- all transfers of a struck round; nothing while it is open
abbrev pub brought_so_far : Held → ℤ
brought_so_far h = cond h.struck (brought_by h) (pos 0)

abbrev pub of_held : (Held → ℤ) → Option Held → ℤ
of_held f None = pos 0
of_held f (Some h) = f h

-- of the rounds of a package together
abbrev pub over_rounds : (Held → ℤ) → Package → ℤ
over_rounds f p = of_held f (held_by p First) +ℤ of_held f (held_by p Second)

-- ---- fractions

abbrev pub rounds_with : (first : Round) → (residual : Option ℕ) → (second : Round) → PackageRounds
rounds_with first None second = first_only first
rounds_with first (Some parts) second = with_residual first parts second

-- the rounds of a package, as fractions see them
abbrev pub rounds_held : Package → PackageRounds
rounds_held p = rounds_with (first_round_of p) p.residual (round_held p.second).round

-- the fraction of member a once no round is open
abbrev pub fraction_held : Package → (a : ℕ) → Option ℕ
fraction_held p a =
    when_so (not (is_open (package_of p))) (when_so (nat_lt a (terms_of p).members) (Some (package_fraction (rounds_held p) a)))
