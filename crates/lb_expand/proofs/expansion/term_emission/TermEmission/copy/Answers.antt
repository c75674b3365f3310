use Rattle.lb_expand.proofs.Words.{Clock, ElementId, FlatClock, Global, List, Vec, ap, arith}
use Rattle.lb_expand.proofs.Words.{clock_of, drop, get_or, get_or-drop, length, length-drop, min}
use Rattle.lb_expand.proofs.Words.{min-le_left, min-le_right, numbers_of, refl, sym, ℕ, ◌+◌, ◌-◌}
use Rattle.lb_expand.proofs.{Words.{◌<◌, ◌∙◌, ◌≤◌}, emission.EmittedCalls.{copy_ends, copy_step}}
use Rattle.lb_expand.proofs.emission.EmittedStacks.{number_at, numbers_many}
use Rattle.lb_expand.proofs.expansion.term_emission.TermEmission.copy.Goals as goal

pub loop-i-preserved : goal.loop-i-preserved
loop-i-preserved c =
    let l = c.loop-i in
    let from = c.args.from in
    let n = c.args.targets.count in
    let key : Vec Clock Global → FlatClock = λ cs. clock_of cs.items c.args.clock in
    let numbers : Vec ElementId Global → List ℕ = λ xs. numbers_of xs.items in
    let all = numbers c.args.self.now.found in
    let js = drop from all in
    let same = ap (λ (xs : Vec ElementId Global). length xs.items) l.invariant.found in
    let above = length-drop from all in
    let left = min-le_left n (c.len.result - from) in
    let right = min-le_right n (c.len.result - from) in
    let test = c.loop-i-test.true in
    let lt : l.i < n = omega (arith, test, l.auto.i-end, c.min-count.ensures, left) in
    let more : l.i < length js = omega (
      arith,
      test,
      l.auto.i-end,
      c.min-count.ensures,
      right,
      numbers_many,
      above,
      c.len.ensures,
    ) in
    let within : from + l.i < length (numbers l.self.found) =
    omega (arith, more, above, numbers_many, same) in
    let at = ap (λ (a : ElementId). a.0) c.index-operand.ensures ∙ number_at _ _
    c.index-operand.result.now within ∙ ap (λ xs. get_or (numbers xs) (from + l.i) 0)
    l.invariant.found ∙ sym (get_or-drop from all l.i 0) in
    grind (
      arith,
      copy_step _ _ _ _ _ _ _ _ _ _ _ lt more l.invariant.rest
          c.in_ok-copy_one.ensures.state (ap key l.invariant.clocks) refl at,
    )

pub returns-clause-state : goal.returns-clause-state
returns-clause-state c =
    let l = c.loop-i in
    let old = c.args.self.now in
    let from = c.args.from in
    let k = clock_of old.clocks.items c.args.clock in
    let all = numbers_of old.found.items in
    let js = drop from all in
    let above = length-drop from all in
    let done : min c.args.targets.count (length js) ≤ l.i = grind (
      arith,
      numbers_many,
      above,
      c.len.ensures,
      c.loop-i-test.false,
      l.auto.i-end,
      c.min-count.ensures,
    ) in
    copy_ends _ _ _ _ _ _ _ done l.invariant.rest
