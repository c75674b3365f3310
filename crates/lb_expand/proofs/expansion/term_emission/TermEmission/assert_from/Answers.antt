use Rattle.lb_expand.proofs.Words.{ElementId, Global, List, Vec, ap, arith, drop, get_or, length}
use Rattle.lb_expand.proofs.Words.{numbers_of, state_of, with_asserted, ℕ, ◌<◌, ◌∙◌, ◌≤◌}
use Rattle.lb_expand.proofs.emission.EmittedChains.{assert_ends, assert_more}
use Rattle.lb_expand.proofs.emission.EmittedStacks.{number_at, numbers_many}
use Rattle.lb_expand.proofs.expansion.term_emission.TermEmission.assert_from.Goals as goal

pub loop-i-preserved : goal.loop-i-preserved
loop-i-preserved c =
    let l = c.loop-i in
    let old = c.args.self.now in
    let numbers : Vec ElementId Global → List ℕ = λ xs. numbers_of xs.items in
    let all = numbers old.found in
    let same = ap (λ (xs : Vec ElementId Global). length xs.items) l.invariant.found in
    let lt : l.i < length all =
    omega (arith, numbers_many, c.loop-i-test.true, l.auto.i-end, c.len-i-end.ensures) in
    let at = ap (λ (a : ElementId). a.0) c.index-a.ensures
    ∙ number_at l.self.found.items l.i c.index-a.result.now
    (omega (arith, lt, numbers_many, same))
    ∙ ap (λ xs. get_or (numbers xs) l.i 0) l.invariant.found in
    grind (
      arith,
      assert_more (state_of l.self) (state_of c.assert_one.new.self) (with_asserted
          (state_of old) (drop c.args.from all)) all l.i _ lt c.in_ok-assert_one.ensures.state at
          l.invariant.rest,
    )

pub returns-clause-state : goal.returns-clause-state
returns-clause-state c =
    let l = c.loop-i in
    let all = numbers_of c.args.self.now.found.items in
    let le : length all ≤ l.i =
    omega (arith, numbers_many, c.loop-i-test.false, l.auto.i-end, c.len-i-end.ensures) in
    assert_ends _ _ _ _ le l.invariant.rest
