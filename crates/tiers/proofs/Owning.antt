-- What our own pile bears, and who is charged first.
use Rattle.std.proofs.Common.{◌≡◌, ℕ, ◌+◌, ◌-◌, ◌<◌, ◌≤◌, List, length, sym, refl, ap, ◌∙◌, subst, arith}
use Rattle.std.proofs.lemmas.Bool.Decides.{nat_tests}
use Rattle.shares.specs.Sums.{total, at}
use Rattle.shares.proofs.Totals.{total_within, total_same, total-minus}
use Rattle.tiers.specs.Piles.{borne_at, Alike, told, Bore}
use Rattle.tiers.specs.Piles.Pile.{one}
use Rattle.tiers.specs.Waterfall.{charged}
use Rattle.tiers.specs.Charging.{Rule, in_turn, pro_rata, rest, Charged}
use Rattle.tiers.specs.OwnPile.{Rows, estate_row, own_share_row, member_row, own_rows, to_own_share, to_juniors, to_seniors, own_charges, own_charge, unborne, four_tiers, no_rows, EachCharged, OwnBore, OwnCharged}
use Rattle.tiers.specs.Laws.{Lawful, OwnPileBears, OwnChargeIs, JuniorsFirst}
use Rattle.tiers.specs.Tables.{account_at, borne_of, left_of, Opened}
use Rattle.tiers.specs.Meanings.{borne_in}
use Rattle.tiers.specs.OwnTiers.{FourTiers, left_rows, borne_rows, pile_of, rows_of, OwnMade}
use Rattle.tiers.specs.declared.accounts.Account.{Account}
use Rattle.tiers.specs.declared.accounts.Accounts.{Accounts}
use Rattle.tiers.specs.declared.own.OwnAmounts.{OwnAmounts}
use Rattle.tiers.proofs.Settling.{settled}
use Rattle.tiers.proofs.Rising.{bore_by}
use Rattle.tiers.proofs.Rules.{in_turn_lawful, pro_rata_lawful, in_turn_same, pro_rata_same, rest_same}

-- A new tier that charges by a rule has borne.
new_bore : (rule : Rule) → Lawful rule → (left : ℕ → ℕ) (x : ℕ) →
    Bore (one left (λ _. 0)) x (one (λ a. left a - rule left x a) (rule left x)) (rest left x)
new_bore rule law left x =
    bore_by (rule left x) left (λ _. 0) (λ a. left a - rule left x a) (rule left x) x (rest left x)
    (λ a _. law.within left x a) (λ a _. omega arith) (λ a _. omega (arith, law.within left x a)) (law.whole left x) refl

pub own_pile_bears : OwnPileBears
own_pile_bears k x = (
  to_own_share k x,
  new_bore in_turn in_turn_lawful k.estate x,
  (
    to_juniors k x,
    new_bore in_turn in_turn_lawful k.own_share (to_own_share k x),
    (
      to_seniors k x,
      new_bore pro_rata pro_rata_lawful k.juniors (to_juniors k x),
      new_bore pro_rata pro_rata_lawful k.seniors (to_seniors k x),
    ),
  ),
)

pub own_charge_is : OwnChargeIs
own_charge_is k x a = omega arith

-- If something comes back from a tier, each account is charged to its end.
pub to_the_end : (rule : Rule) → Lawful rule → (left : ℕ → ℕ) (x : ℕ) → 0 < rest left x → (a : ℕ) → a < 64 → rule left x a ≡ left a
to_the_end rule law left x some a h =
    let kept : total 64 (λ b. left b - rule left x b) + total 64 (rule left x) ≡ total 64 left =
    total-minus 64 (rule left x) left (λ b _. law.within left x b) in
    omega (arith, law.whole left x, law.within left x a, total_within 64 (λ b. left b - rule left x b) a h)

-- An account that can bear nothing in the upper three tiers is charged only if the third is charged to its end.
pub last_charged : (k : Rows) (x m : ℕ) → m < 64 → k.estate m ≡ 0 → k.own_share m ≡ 0 → k.juniors m ≡ 0 →
    0 < own_charge k x m → (a : ℕ) → a < 64 → (own_charges k x).juniors a ≡ k.juniors a
last_charged k x m h no_estate no-share no_junior some a l =
    let none : pro_rata k.juniors (to_juniors k x) m ≤ k.juniors m = pro_rata_lawful.within k.juniors (to_juniors k x) m in
    let last : pro_rata k.seniors (to_seniors k x) m ≤ total 64 (pro_rata k.seniors (to_seniors k x)) =
    total_within 64 (pro_rata k.seniors (to_seniors k x)) m h in
    to_the_end pro_rata pro_rata_lawful k.juniors (to_juniors k x)
    (omega (arith, pro_rata_lawful.whole k.seniors (to_seniors k x))) a l

no_estate : (cash pledges m : ℕ) → m < 60 → estate_row cash pledges m ≡ 0
no_estate cash pledges m h = grind (arith, nat_tests)

no_own_share : (amount m : ℕ) → m < 60 → own_share_row amount m ≡ 0
no_own_share amount m h = grind (arith, nat_tests)

member_part : (parts : ℕ → ℕ) (m : ℕ) → m < 60 → member_row parts m ≡ parts m
member_part parts m h = grind (arith, nat_tests)

pub juniors_first : JuniorsFirst
juniors_first cash pledges share juniors seniors loss m h none some a l =
    last_charged (own_rows cash pledges share juniors seniors) loss m (omega arith)
    (no_estate cash pledges m h) (no_own_share share m h) (member_part juniors m h ∙ none) some a (omega arith)
    ∙ member_part juniors a l

-- What the account is charged where each tier charges it.
charged_in_all : (k b c k' b' : Rows) → EachCharged k b c k' b' → (a : ℕ) → a < 64 →
    charged (four_tiers k b) (four_tiers k' b') a ≡ c.estate a + (c.own_share a + (c.juniors a + c.seniors a))
charged_in_all k b c k' b' e a h = omega (arith, (e.estate a h).0, (e.own_share a h).0, (e.juniors a h).0, (e.seniors a h).0)

-- Four tiers that bear one after another, each what came back from the one above it, each by its rule.
pub own_bore : (k b k' b' : Rows) (x x₁ x₂ x₃ back : ℕ) →
    Bore (one k.estate b.estate) x (one k'.estate b'.estate) x₁ →
    Bore (one k.own_share b.own_share) x₁ (one k'.own_share b'.own_share) x₂ →
    Bore (one k.juniors b.juniors) x₂ (one k'.juniors b'.juniors) x₃ →
    Bore (one k.seniors b.seniors) x₃ (one k'.seniors b'.seniors) back →
    Charged k.estate b.estate (in_turn k.estate x) k'.estate b'.estate →
    Charged k.own_share b.own_share (in_turn k.own_share x₁) k'.own_share b'.own_share →
    Charged k.juniors b.juniors (pro_rata k.juniors x₂) k'.juniors b'.juniors →
    Charged k.seniors b.seniors (pro_rata k.seniors x₃) k'.seniors b'.seniors →
    OwnBore k b x k' b' back
own_bore k b k' b' x x₁ x₂ x₃ back e o j s ce co cj cs =
    let is₁ : x₁ ≡ to_own_share k x = e.answers in
    let is₂ : x₂ ≡ to_juniors k x = o.answers ∙ ap (rest k.own_share) is₁ in
    let is₃ : x₃ ≡ to_seniors k x = j.answers ∙ ap (rest k.juniors) is₂ in
    let each : EachCharged k b (own_charges k x) k' b' =
    record {
      estate = ce;
      own_share = subst (λ (n : ℕ). Charged k.own_share b.own_share (in_turn k.own_share n) k'.own_share b'.own_share) is₁ co;
      juniors = subst (λ (n : ℕ). Charged k.juniors b.juniors (pro_rata k.juniors n) k'.juniors b'.juniors) is₂ cj;
      seniors = subst (λ (n : ℕ). Charged k.seniors b.seniors (pro_rata k.seniors n) k'.seniors b'.seniors) is₃ cs;
    } in
    record {
      each = each;
      answers = s.answers ∙ ap (rest k.seniors) is₃;
      settled = settled (four_tiers k b) x (four_tiers k' b') back (x₁, e, (x₂, o, (x₃, j, s)));
      juniors_first = λ m h no_estate no-share no_junior some a l.
          omega (
            arith,
            (each.juniors a l).1,
            last_charged k x m h no_estate no-share no_junior (omega (arith, charged_in_all k b (own_charges k x) k' b' each m h)) a l,
          );
    }

-- A table that is opened with a row of capacities can bear them, and has borne nothing.
opened_row : (limit : ℕ) (row : ℕ → ℕ) (given : List ℕ) (accounts : List Account) → Opened limit given accounts →
    ((a : ℕ) → a < 64 → at given a ≡ row a) → (a : ℕ) → a < 64 → (left_of accounts a ≡ row a) × (borne_of accounts a ≡ 0)
opened_row limit row given accounts opened is a h =
    (omega (arith, is a h, opened.as_given a h, opened.unborne a h), opened.unborne a h)

-- Its row is within the limit.
opened_low : (limit : ℕ) (row : ℕ → ℕ) (given : List ℕ) (accounts : List Account) → Opened limit given accounts →
    ((a : ℕ) → a < 64 → at given a ≡ row a) → (a : ℕ) → a < 64 → row a ≤ limit
opened_low limit row given accounts opened is a h = omega (arith, is a h, opened.as_given a h, opened.limited a h)

-- The four tiers are our own pile where each is opened with its row.
pub own_made : (amounts : OwnAmounts) (t : FourTiers) (e o j s : List ℕ) →
    Opened 10000000000 e t.upper.accounts.each →
    Opened 10000000000 o t.lower.upper.accounts.each →
    Opened 25000000 j t.lower.lower.upper.accounts.each →
    Opened 25000000 s t.lower.lower.lower.accounts.each →
    ((a : ℕ) → a < 64 → at e a ≡ (rows_of amounts).estate a) →
    ((a : ℕ) → a < 64 → at o a ≡ (rows_of amounts).own_share a) →
    ((a : ℕ) → a < 64 → at j a ≡ (rows_of amounts).juniors a) →
    ((a : ℕ) → a < 64 → at s a ≡ (rows_of amounts).seniors a) →
    OwnMade amounts t
own_made amounts t e o j s oe oo oj os ise iso isj iss =
    let k = rows_of amounts in
    let low_e = opened_low 10000000000 k.estate e _ oe ise in
    let low_j = opened_low 25000000 k.juniors j _ oj isj in
    let low_s = opened_low 25000000 k.seniors s _ os iss in
    record {
      in_limits = record {
        cash_low = low_e 60 (omega arith);
        pledges_low = low_e 61 (omega arith);
        share_low = opened_low 10000000000 k.own_share o _ oo iso 62 (omega arith);
        juniors_low = λ a h. omega (arith, member_part (at amounts.juniors.now) a h, low_j a (omega arith));
        seniors_low = λ a h. omega (arith, member_part (at amounts.seniors.now) a h, low_s a (omega arith));
      };
      means = (
        opened_row 10000000000 k.estate e _ oe ise,
        (
          opened_row 10000000000 k.own_share o _ oo iso,
          (opened_row 25000000 k.juniors j _ oj isj, opened_row 25000000 k.seniors s _ os iss),
        ),
      );
    }

-- What is asked of each tier, and what each account is charged, depends on accounts 0 to 63 alone.
same_rows : (k b l c : Rows) → Alike (four_tiers k b) (four_tiers l c) → (x a : ℕ) → a < 64 →
    (own_charge k x a ≡ own_charge l x a) × (unborne k x ≡ unborne l x)
same_rows k b l c same x a h =
    let e : (b : ℕ) → b < 64 → k.estate b ≡ l.estate b = λ b i. (same.0 b i).0 in
    let o : (b : ℕ) → b < 64 → k.own_share b ≡ l.own_share b = λ b i. (same.1.0 b i).0 in
    let j : (b : ℕ) → b < 64 → k.juniors b ≡ l.juniors b = λ b i. (same.1.1.0 b i).0 in
    let s : (b : ℕ) → b < 64 → k.seniors b ≡ l.seniors b = λ b i. (same.1.1.1 b i).0 in
    let x₁ : to_own_share k x ≡ to_own_share l x = rest_same k.estate l.estate x x e refl in
    let x₂ : to_juniors k x ≡ to_juniors l x = rest_same k.own_share l.own_share (to_own_share k x) (to_own_share l x) o x₁ in
    let x₃ : to_seniors k x ≡ to_seniors l x = rest_same k.juniors l.juniors (to_juniors k x) (to_juniors l x) j x₂ in
    let c₁ : in_turn k.estate x a ≡ in_turn l.estate x a = in_turn_same k.estate l.estate x e a h in
    let c₂ : in_turn k.own_share (to_own_share k x) a ≡ in_turn l.own_share (to_own_share l x) a =
    in_turn_same k.own_share l.own_share (to_own_share k x) o a h ∙ ap (λ n. in_turn l.own_share n a) x₁ in
    let c₃ : pro_rata k.juniors (to_juniors k x) a ≡ pro_rata l.juniors (to_juniors l x) a =
    pro_rata_same k.juniors l.juniors (to_juniors k x) j a h ∙ ap (λ n. pro_rata l.juniors n a) x₂ in
    let c₄ : pro_rata k.seniors (to_seniors k x) a ≡ pro_rata l.seniors (to_seniors l x) a =
    pro_rata_same k.seniors l.seniors (to_seniors k x) s a h ∙ ap (λ n. pro_rata l.seniors n a) x₃ in
    (four_sum c₁ c₂ c₃ c₄, rest_same k.seniors l.seniors (to_seniors k x) (to_seniors l x) s x₃)
  where
    four_sum : {b c d e b' c' d' e' : ℕ} → b ≡ b' → c ≡ c' → d ≡ d' → e ≡ e' → b + (c + (d + e)) ≡ b' + (c' + (d' + e'))
    four_sum p q r s = omega arith

-- What our own pile, made new, has borne once it bore a loss.
pub own_charged : (amounts : OwnAmounts) (loss : ℕ) (t t' : FourTiers) (row : List ℕ) (back : ℕ) →
    OwnMade amounts t →
    OwnBore (left_rows t) (borne_rows t) loss (left_rows t') (borne_rows t') back →
    length row ≡ 64 → ((a : ℕ) → a < 64 → at row a ≡ told (borne_at (pile_of t') a)) →
    OwnCharged (rows_of amounts) loss row back
own_charged amounts loss t t' row back made bore wide is =
    let k = rows_of amounts in
    let same = same_rows (left_rows t) (borne_rows t) k no_rows made.means loss in
    let rose : (a : ℕ) → a < 64 → charged (pile_of t) (pile_of t') a ≡ at row a = λ a h.
    omega (
      arith,
      is a h,
      low t'.upper.accounts a,
      low t'.lower.upper.accounts a,
      low t'.lower.lower.upper.accounts a,
      low t'.lower.lower.lower.accounts a,
      (made.means.0 a h).1,
      (made.means.1.0 a h).1,
      (made.means.1.1.0 a h).1,
      (made.means.1.1.1 a h).1,
    ) in
    let each : (a : ℕ) → a < 64 → at row a ≡ own_charge k loss a = λ a h.
    sym (rose a h) ∙ charged_in_all (left_rows t) (borne_rows t) (own_charges (left_rows t) loss) (left_rows t') (borne_rows t') bore.each a h ∙ (same a h).0 in
    let part = member_part (at amounts.juniors.now) in
    record {
      wide = wide;
      each = each;
      answers = bore.answers ∙ (same 0 (omega arith)).1;
      whole = omega (arith, bore.settled.whole, total_same 64 (charged (pile_of t) (pile_of t')) (at row) rose);
      juniors_first = λ m h none some a l.
          juniors_first amounts.estate_cash amounts.estate_pledges amounts.own_share (at amounts.juniors.now) (at amounts.seniors.now) loss m h
          (sym (part m h) ∙ none) (omega (arith, each m (omega arith))) a l
          ∙ sym (part a l);
    }
  where
    low : (accounts : Accounts) (a : ℕ) → borne_in accounts a ≤ 10000000000
    low accounts a = let account = account_at accounts.each a in omega (arith, account.held, account.limited)
