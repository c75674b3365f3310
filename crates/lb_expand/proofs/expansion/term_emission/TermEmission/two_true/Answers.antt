use Rattle.lb_expand.proofs.Words.{And, ApplyBinary, Clock, ElementId, FlatClock, Global, List, Or}
use Rattle.lb_expand.proofs.Words.{Vec, ap, ap₂, arith, clock_of, get_or, length, numbers_of, push}
use Rattle.lb_expand.proofs.Words.{state_of, sym, ℕ, ◌<◌, ◌∙◌, ◌≤◌}
use Rattle.lb_expand.proofs.emission.EmittedChains.{twice_ends, twice_step}
use Rattle.lb_expand.proofs.emission.EmittedStacks.{number_at, numbers_many}
use Rattle.lb_expand.proofs.expansion.term_emission.TermEmission.two_true.Goals as goal

pub loop-i-preserved : goal.loop-i-preserved
loop-i-preserved c =
    let l = c.loop-i in
    let old = c.args.self.now in
    let key : Vec Clock Global → FlatClock = λ cs. clock_of cs.items c.args.clock in
    let k = key old.clocks in
    let numbers : Vec ElementId Global → List ℕ = λ xs. numbers_of xs.items in
    let all = numbers old.found in
    let one = c.in_ok-both.ensures in
    let two = c.in_ok-two.ensures in
    let three = c.in_ok-any.ensures in
    let lt : l.i < length all =
    omega (arith, numbers_many, c.loop-i-test.true, l.auto.i-end, c.len-i-end.ensures) in
    let later = two.found ∙ one.found ∙ l.invariant.found in
    let first_same = ap (λ (xs : Vec ElementId Global). length xs.items) l.invariant.found in
    let at = ap (λ (a : ElementId). a.0) c.index-a.ensures
    ∙ number_at l.self.found.items l.i c.index-a.result.now
    (omega (arith, lt, numbers_many, first_same))
    ∙ ap (λ xs. get_or (numbers xs) l.i 0) l.invariant.found in
    let et = one.state ∙ ap₂ (λ (k : FlatClock) (a : ℕ).
    push k (state_of l.self) (ApplyBinary And l.any.0 a)) (ap key l.invariant.clocks) at in
    let eu = two.state ∙ ap (λ (k : FlatClock).
    push k (state_of c.push.new.self) (ApplyBinary Or l.two.0 c.in_ok-both.both.0))
    (ap key (one.clocks ∙ l.invariant.clocks)) in
    let ev = three.state ∙ ap₂ (λ (k : FlatClock) (a : ℕ).
    push k (state_of c.push-in-loop-i.new.self) (ApplyBinary Or l.any.0 a))
    (ap key (two.clocks ∙ one.clocks ∙ l.invariant.clocks)) at in
    grind (
      arith,
      twice_step k (state_of l.self) (state_of c.push.new.self) (state_of
          c.push-in-loop-i.new.self) (state_of c.push-in-loop-i-2.new.self) l.any.0 l.two.0
          c.in_ok-both.both.0 c.in_ok-two.two.0 c.in_ok-any.any.0 all l.i _ lt l.invariant.rest et
          one.element eu two.element ev three.element,
    )

pub returns-clause-twice : goal.returns-clause-twice
returns-clause-twice c =
    let l = c.loop-i in
    let all = numbers_of c.args.self.now.found.items in
    let le : length all ≤ l.i =
    omega (arith, numbers_many, c.loop-i-test.false, l.auto.i-end, c.len-i-end.ensures) in
    sym (twice_ends _ _ _ _ _ _ le) ∙ l.invariant.rest
