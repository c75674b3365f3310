use Rattle.lb_expand.proofs.Words.{◌<◌, ◌≤◌, length, min, arith, Vec, Global, refl, sym, ap}
use Rattle.lb_expand.proofs.Words.{min-le_left, min-le_right, length-range_with_len}
use Rattle.lb_expand.proofs.Words.{get_or-range_with_len, FlatClock, elements_of, clock_of, Clock}
use Rattle.lb_expand.proofs.emission.EmittedCalls.{copy_step, copy_ends}
use Rattle.lb_expand.proofs.expansion.term_emission.TermEmission.copy_elements.Goals as goal

pub loop-i-preserved : goal.loop-i-preserved
loop-i-preserved c =
    let l = c.loop-i in
    let n = c.args.targets.count in
    let m = c.args.elements.count in
    let start = c.args.elements.first in
    let key : Vec Clock Global → FlatClock = λ cs. clock_of cs.items c.args.clock in
    let js = elements_of c.args.elements in
    let size = length-range_with_len start m in
    let left = min-le_left n m in
    let right = min-le_right n m in
    let test = c.loop-i-test.true in
    let lt : l.i < n = omega (arith, test, l.auto.i-end, c.min-i-end.ensures, left) in
    let below : l.i < m = omega (arith, test, l.auto.i-end, c.min-i-end.ensures, right) in
    let more : l.i < length js = omega (arith, below, size) in
    grind (
      arith,
      copy_step _ _ _ _ _ _ _ _ _ _ _ lt more l.invariant.rest
          c.in_ok-copy_one.ensures.state (ap key l.invariant.clocks) refl
          (sym (get_or-range_with_len
          start m l.i 0 below)),
    )

pub returns-clause-state : goal.returns-clause-state
returns-clause-state c =
    let l = c.loop-i in
    let k = clock_of c.args.self.now.clocks.items c.args.clock in
    let js = elements_of c.args.elements in
    let size = length-range_with_len c.args.elements.first c.args.elements.count in
    let done : min c.args.targets.count (length js) ≤ l.i =
    grind (arith, size, c.loop-i-test.false, l.auto.i-end, c.min-i-end.ensures) in
    copy_ends _ _ _ _ _ _ _ done l.invariant.rest
