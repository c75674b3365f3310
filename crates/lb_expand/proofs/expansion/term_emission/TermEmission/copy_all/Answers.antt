use Rattle.lb_expand.proofs.Words.{ElementId, Global, List, Vec, ap, arith, drop, flat_map}
use Rattle.lb_expand.proofs.Words.{index_copies, numbers_of, range_with_len, state_of, with_copies}
use Rattle.lb_expand.proofs.{Words.{ℕ, ◌<◌, ◌∙◌}, emission.EmittedCalls.{copying_ends, index_step}}
use Rattle.lb_expand.proofs.emission.EmittedCalls.{range_done}
use Rattle.lb_expand.proofs.expansion.term_emission.TermEmission.copy_all.Goals as goal

pub loop-index-preserved : goal.loop-index-preserved
loop-index-preserved g c =
    let ctx = g.F.Frame.context c.args.frame.now in
    let l = c.loop-index in
    let m = ctx.repeats c.args.call in
    let numbers : Vec ElementId Global → List ℕ = λ xs. drop c.args.from (numbers_of xs.items) in
    let lt : l.index < m =
    omega (arith, c.loop-index-test.true, l.auto.index-end, c.repeats-index-end.ensures) in
    let et = c.in_ok-copy_index.ensures.state ∙ ap (λ xs. with_copies (state_of l.self)
    (index_copies ctx c.args.call m c.args.iterator c.args.callee (numbers xs) l.index))
    l.invariant.found in
    grind (arith, index_step _ _ _ _ _ _ lt l.invariant.rest et)

pub returns-clause-state : goal.returns-clause-state
returns-clause-state g c =
    let ctx = g.F.Frame.context c.args.frame.now in
    let l = c.loop-index in
    let old = c.args.self.now in
    let m = ctx.repeats c.args.call in
    let is = drop c.args.from (numbers_of old.found.items) in
    let f = index_copies ctx c.args.call m c.args.iterator c.args.callee is in
    let whole = with_copies (state_of old) (flat_map f (range_with_len 0 m)) in
    copying_ends (state_of l.self) whole _ (ap (flat_map f) (range_done 0 m l.index
    (omega (arith, c.loop-index-test.false, l.auto.index-end, c.repeats-index-end.ensures))))
    l.invariant.rest
