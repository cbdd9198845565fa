use Rattle.std.proofs.Common.{◌≡◌, ℕ, ◌+◌, Bool, List, length, ℤ, sym, refl, ap, ◌∙◌, subst, add-zero, arith}
use Rattle.std.proofs.lemmas.Fn.{says_at}
use Rattle.shares.specs.Sums.{total}
use Rattle.shares.proofs.Totals.{total_none, total_more}
use Rattle.rules.specs.declared.bid.Bid.{Bid}
use Rattle.rules.specs.Amounts.{when}
use Rattle.rules.specs.Rounds.{bid_at, is_market, market_size}
use Rattle.std.specs.Fn.{FnReturnsAt}
use Rattle.auction.proofs.orderly.OrderlyRound.sizes_where.Goals.{then-test, else-test}
use Rattle.auction.proofs.orderly.OrderlyRound.sizes_where.Goals as goal

-- the market sizes of the bids that p passes
abbrev passed : List Bid → ℤ → ℕ → (Bid → Bool) → ℕ → ℕ
passed bids mark margin p i = when (p (bid_at bids i)) (market_size bids mark margin i)

-- one bid more, where the test answered what p does
more : (bids : List Bid) (mark : ℤ) (margin : ℕ) (p : Bid → Bool) (i sum size x : ℕ) (t : Bool) → sum ≡ total i (passed bids mark margin p) → t ≡ p (bid_at bids i) →
    size ≡ when (is_market mark margin (bid_at bids i).price) (bid_at bids i).size → x ≡ when t size → sum + x ≡ total (i + 1) (passed bids mark margin p)
unfolding market_size
more bids mark margin p i sum size x t so et es ex =
    let here : x ≡ passed bids mark margin p i = ex ∙ ap (λ (n : ℕ). when t n) es ∙ ap (λ (s : Bool). when s (market_size bids mark margin i)) et in
    omega (arith, total_more i (passed bids mark margin p))

pub loop-bid-init : goal.loop-bid-init
loop-bid-init g c = (omega arith, λ p says. sym (total_none (passed c.args.bids.now c.args.self.now.mark c.args.self.now.round.margin p)))

pub loop-bid-preserved : goal.loop-bid-preserved
loop-bid-preserved g c =
    let mark = c.args.self.now.mark in
    let margin = c.args.self.now.round.margin in
    let i = c.loop-bid.bid-index in
    let bid = bid_at c.args.bids.now i in
    let more_with : (size x : ℕ) → size ≡ when (is_market mark margin bid.price) bid.size → x ≡ when c.test.result size → c.if-test.sum ≡ c.loop-bid.sum + x →
    (p : Bid → Bool) → ((b : Bid) (t : Bool) → FnReturnsAt g.F.Fn c.args.test b t → t ≡ p b) → c.if-test.sum ≡ total (i + 1) (passed c.args.bids.now mark margin p) =
    λ size x es ex is p says.
    is ∙ more c.args.bids.now mark margin p i c.loop-bid.sum size x c.test.result (c.loop-bid.invariant.1 p says) (says bid c.test.result (says_at g.F.Fn c.test.ensures refl)) es ex in
    elim c.if-test.branch [
      | then-test w ↦ (
          let size = w.market_size-sum.result in (
            omega (arith, w.sum-is, w.market_size-sum.ensures.small),
            more_with size size w.market_size-sum.ensures.is (sym (ap (λ (t : Bool). when t size) w.if-test.true)) w.sum-is,
          ))
      | else-test w ↦ (
          let size = when (is_market mark margin bid.price) bid.size in (
            omega (arith, w.sum-is),
            more_with size 0 refl (sym (ap (λ (t : Bool). when t size) w.if-test.false)) (w.sum-is ∙ sym (add-zero c.loop-bid.sum)),
          ))
    ]

pub returns : goal.returns
returns g c =
    let e : c.loop-bid.bid-index ≡ length c.args.bids.now = omega arith in
    λ p says. subst (λ (n : ℕ). c.loop-bid.sum ≡ total n (passed c.args.bids.now c.args.self.now.mark c.args.self.now.round.margin p)) e (c.loop-bid.invariant.1 p says)
