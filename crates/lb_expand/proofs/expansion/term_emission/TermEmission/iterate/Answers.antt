use Rattle.lb_expand.proofs.Words.{◌≡◌, ℕ, List, Vec, Global, OnOk, refl, sym, ap, subst, ◌∙◌}
use Rattle.lb_expand.proofs.Words.{ElementId, numbers_of, state_of, emitted_of}
use Rattle.lb_expand.proofs.emission.EmittedCalls.{iterate_done, nothing_iterated}
use Rattle.lb_expand.proofs.expansion.term_emission.TermEmission.iterate.Goals as goal

pub returns-in_ok-copy_all-in-Some-clause-emitted :
    goal.returns-in_ok-copy_all-in-Some-clause-emitted
returns-in_ok-copy_all-in-Some-clause-emitted g c =
    let ctx = g.F.Frame.context c.args.frame.now in
    let old = c.args.self.now in
    let mid = c.copy_all.new.self in
    let numbers : Vec ElementId Global → List ℕ = λ xs. numbers_of xs.items in
    let step = c.in_ok-copy_all-in-Some.ensures in
    subst (λ r. OnOk c.put_outputs.result (emitted_of c.put_outputs.new.self ≡ r))
    (iterate_done ctx c.args.call c.args.from c.args.iterator c.in-Some.callee (emitted_of old)
    (emitted_of c.cut.new.self) _ (state_of mid) (numbers mid.found)
    (sym c.callee.ensures.callee ∙ c.in-Some.is) step.state c.cut.ensures.emitted
    (ap numbers step.found) refl)
    c.put_outputs.ensures.emitted

pub returns-in-None-clause-emitted : goal.returns-in-None-clause-emitted
returns-in-None-clause-emitted g c =
    let ctx = g.F.Frame.context c.args.frame.now in
    let old = c.args.self.now in
    nothing_iterated ctx c.args.call c.args.from c.args.iterator (emitted_of old)
    (emitted_of c.cut-in-None.new.self) (sym c.callee.ensures.callee ∙ c.in-None.is)
    c.cut-in-None.ensures.emitted
