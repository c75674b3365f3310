use Rattle.lb_expand.proofs.Words.{◌≡◌, Vec, Global, OnOk, ap, subst, ◌∙◌, each, FlatClock}
use Rattle.lb_expand.proofs.Words.{unary_of, emitted_of, on_top, clock_of, Clock}
use Rattle.lb_expand.proofs.emission.EmittedChains.{kept_each}
use Rattle.lb_expand.proofs.expansion.term_emission.TermEmission.memory.Goals as goal

pub returns-clause-emitted : goal.returns-clause-emitted
returns-clause-emitted c =
    let f = unary_of c.args.operator in
    let key : Vec Clock Global → FlatClock = λ cs. clock_of cs.items c.args.clock in
    subst (λ r. OnOk c.each.result (emitted_of c.each.new.self ≡ r)) (ap (λ (k : FlatClock). on_top
    c.args.from (each k f) (emitted_of c.keep.new.self)) (ap key c.keep.ensures.clocks) ∙ kept_each
    _ _ _ _ _ c.in_ok-keep.ensures.emitted) c.each.ensures.emitted
