use Rattle.lb_expand.proofs.Words.{◌≡◌, ◌+◌, ℕ, List, Vec, Global, OnOk, refl, sym, ap, subst, ◌∙◌}
use Rattle.lb_expand.proofs.Words.{ElementId, numbers_of, state_of, emitted_of}
use Rattle.lb_expand.proofs.emission.EmittedCalls.{call_done, nothing_called}
use Rattle.lb_expand.proofs.expansion.term_emission.TermEmission.call.Goals as goal

pub returns-in_ok-copy_inputs-in-Some-clause-emitted :
    goal.returns-in_ok-copy_inputs-in-Some-clause-emitted
returns-in_ok-copy_inputs-in-Some-clause-emitted g c =
    let ctx = g.F.Frame.context c.args.frame.now in
    let old = c.args.self.now in
    let mid = c.copy_inputs.new.self in
    let numbers : Vec ElementId Global → List ℕ = λ xs. numbers_of xs.items in
    let step = c.in_ok-copy_inputs-in-Some.ensures in
    let n = c.in-Some.callee in
    subst (λ r. OnOk c.put_gathered.result (emitted_of c.put_gathered.new.self ≡ r))
    (call_done ctx c.args.call c.args.from n (emitted_of old) (emitted_of c.cut.new.self) _
    (state_of mid) (numbers mid.found) (n.inputs + n.outputs)
    (sym c.callee.ensures.callee ∙ c.in-Some.is) step.state c.cut.ensures.emitted
    (ap numbers step.found) refl refl)
    c.put_gathered.ensures.emitted

pub returns-in-None-clause-emitted : goal.returns-in-None-clause-emitted
returns-in-None-clause-emitted g c =
    let ctx = g.F.Frame.context c.args.frame.now in
    let old = c.args.self.now in
    nothing_called ctx c.args.call c.args.from (emitted_of old)
    (emitted_of c.cut-in-None.new.self) (sym c.callee.ensures.callee ∙ c.in-None.is)
    c.cut-in-None.ensures.emitted
