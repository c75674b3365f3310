use Rattle.lb_expand.proofs.Words.{◌≡◌, ◌<◌, ◌+◌, ◌^◌, OnOk, arith, subst, Emitted, numbers_of}
use Rattle.lb_expand.proofs.Words.{state_of, emitted_of}
use Rattle.lb_expand.proofs.emission.EmittedProgram.{outputs_none, outputs_found}
use Rattle.lb_expand.proofs.expansion.term_emission.TermEmission.put_start.Goals as goal

pub returns-in-Some-clause-emitted : goal.returns-in-Some-clause-emitted
returns-in-Some-clause-emitted g c =
    let old = c.args.self.now in
    let r = c.put_parameters in
    subst (λ (x : Emitted). OnOk r.result (emitted_of r.new.self ≡ x))
    (outputs_found (g.F.TableFrame.contexts c.args.frame.now) (state_of old)
    (numbers_of old.found.items) (g.F.Frame.context c.enter.new.self) c.args.start
    c.in-Some.start c.in-Some.is c.enter.ensures.context) r.ensures.emitted

pub returns-in-None-clause-emitted : goal.returns-in-None-clause-emitted
returns-in-None-clause-emitted g c =
    let old = c.args.self.now in
    outputs_none (g.F.TableFrame.contexts c.args.frame.now) (state_of old)
    (numbers_of old.found.items) c.args.start c.in-None.is

pub overflow_add-start : goal.overflow_add-start
overflow_add-start g c =
    let s = c.in-Some.start in
    let all : s.inputs + s.outputs < 2 ^ 64 = (c.requires.ready s c.in-Some.is).all_counted in
    omega (arith, all)
