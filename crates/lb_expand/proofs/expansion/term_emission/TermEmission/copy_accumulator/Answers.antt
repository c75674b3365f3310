use Rattle.lb_expand.proofs.Words.{Clock, FlatClock, List, accumulator, ap, ap₂, arith, clock_of}
use Rattle.lb_expand.proofs.Words.{copied, drop, elements_of, input_targets, numbers_of, state_of}
use Rattle.lb_expand.proofs.Words.{sym, targets_of, with_copies, ℕ, ◌∙◌}
use Rattle.lb_expand.proofs.emission.EmittedCalls.{next_accumulator}
use Rattle.lb_expand.proofs.expansion.term_emission.TermEmission.copy_accumulator.Goals as goal

pub returns-in_ok-copy_child-clause-state : goal.returns-in_ok-copy_child-clause-state
returns-in_ok-copy_child-clause-state g c =
    let ctx = g.F.Frame.context c.args.frame.now in
    let old = c.args.self.now in
    let ts = input_targets ctx c.args.call c.args.index 0 in
    let is = drop c.args.from (numbers_of old.found.items) in
    c.in_ok-copy_child.ensures.state ∙ ap (λ (is : List ℕ). with_copies (state_of old) (copied ts
    is)) (sym (ap (λ i. accumulator ctx c.args.call c.args.callee i is) c.if-index-eq0.true))

pub returns-in_ok-copy_elements-clause-state : goal.returns-in_ok-copy_elements-clause-state
returns-in_ok-copy_elements-clause-state g c =
    let ctx = g.F.Frame.context c.args.frame.now in
    let old = c.args.self.now in
    let call = c.args.call in
    let i = c.args.index in
    let key : List Clock → FlatClock = λ cs. clock_of cs c.input.result in
    let ts = input_targets ctx call i 0 in
    let is = drop c.args.from (numbers_of old.found.items) in
    let js = elements_of c.child-before.result in
    c.in_ok-copy_elements.ensures.state
    ∙ ap₂ (λ (k : FlatClock) (is : List ℕ).
    with_copies (state_of old) (copied (targets_of k is) js))
    (ap key (sym c.requires.clocks) ∙ c.input.ensures.clock) c.child-targets.ensures.places
    ∙ ap (λ (is : List ℕ). with_copies (state_of old) (copied ts is))
    (c.child-before.ensures.places
    ∙ sym (next_accumulator ctx call c.args.callee i is (omega (arith, c.if-index-eq0.false))))
