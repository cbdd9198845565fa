-- What a record answers, and where the answer is absence.
use Rattle.std.specs.Prelude.{ℕ, cond, None, Option}
use Rattle.std.specs.Option.{option_map}
use Rattle.rules.specs.declared.member.Member.{Member}
use Rattle.rules.specs.declared.name.Name.{Name}
use Rattle.rules.specs.Members.{place_of, member_at}
use Rattle.rules.specs.State.{State, is_roll}

-- members have numbers once the roll is closed: their places in it
abbrev pub member_with : State → ℕ → Option Member
member_with s number = cond (is_roll s.stage) None (member_at s.members number)

abbrev pub name_of : State → ℕ → Option Name
name_of s number = option_map (λ m. m.name) (member_with s number)

abbrev pub contribution_of : State → ℕ → Option ℕ
contribution_of s number = option_map (λ m. m.contribution) (member_with s number)

abbrev pub number_of : State → Name → Option ℕ
number_of s name = cond (is_roll s.stage) None (place_of name s.members)
