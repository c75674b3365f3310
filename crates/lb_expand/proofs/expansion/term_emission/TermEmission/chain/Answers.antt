use Rattle.lb_expand.proofs.Words.{Clock, ElementId, FlatClock, Global, List, Vec, ap, arith}
use Rattle.lb_expand.proofs.Words.{clock_of, get_or, length, numbers_of, state_of, sym, ℕ, ◌<◌, ◌∙◌}
use Rattle.lb_expand.proofs.{Words.◌≤◌, emission.EmittedChains.{chain_step, chained_ends}}
use Rattle.lb_expand.proofs.emission.EmittedStacks.{number_at, numbers_many}
use Rattle.lb_expand.proofs.expansion.term_emission.TermEmission.chain.Goals as goal

pub loop-i-preserved : goal.loop-i-preserved
loop-i-preserved c =
    let l = c.loop-i in
    let old = c.args.self.now in
    let key : Vec Clock Global → FlatClock = λ cs. clock_of cs.items c.args.clock in
    let numbers : Vec ElementId Global → List ℕ = λ xs. numbers_of xs.items in
    let all = numbers old.found in
    let same = ap (λ (xs : Vec ElementId Global). length xs.items) l.invariant.found in
    let lt : l.i < length all =
    omega (arith, numbers_many, c.loop-i-test.true, l.auto.i-end, c.len-i-end.ensures) in
    let at = ap (λ (a : ElementId). a.0) c.index-a.ensures
    ∙ number_at l.self.found.items l.i c.index-a.result.now (omega (arith, lt, numbers_many, same))
    ∙ ap (λ xs. get_or (numbers xs) l.i 0) l.invariant.found in
    let step = c.in_ok-last.ensures in
    grind (
      arith,
      chain_step (key old.clocks) (key l.self.clocks) c.args.operator (state_of l.self)
          (state_of c.push.new.self) l.last.0 c.in_ok-last.last.0 _ all l.i _ lt l.invariant.rest
          step.state (ap key l.invariant.clocks) at step.element,
    )

pub returns-clause-chained : goal.returns-clause-chained
returns-clause-chained c =
    let l = c.loop-i in
    let all = numbers_of c.args.self.now.found.items in
    let le : length all ≤ l.i =
    omega (arith, numbers_many, c.loop-i-test.false, l.auto.i-end, c.len-i-end.ensures) in
    sym (chained_ends _ _ _ _ _ _ le) ∙ l.invariant.rest
