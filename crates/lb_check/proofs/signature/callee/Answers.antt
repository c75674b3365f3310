-- The signature of the callee of a call, if there is one, by its specialization and its node.
use Rattle.lb_check.proofs.Words.{Specialization, ap, either_or, option_map, sym, ◌∙◌}
use Rattle.lb_check.specs.TermSignatures.{callee_signature, declared_signature, nothing}
use Rattle.{lb_static.proofs.Lookups.{held, past}, std.proofs.Common.Bor}
use Rattle.lb_check.proofs.signature.callee.Goals as goal

pub returns-in-Some-get : goal.returns-in-Some-get
returns-in-Some-get c =
    let r = c.args.env.now.reached.now in
    let s = c.in-Some.callee.now in
    let n = c.in-Some-get.node.now in
    c.declared.ensures
    ∙ ap (λ l. declared_signature l n) c.deref-in-Some-get.ensures.value
    ∙ sym (ap (λ o. either_or (option_map (declared_signature s.statics.items) o) nothing)
    (held c.deref.result.now r.nodes.items s.node.0 n c.deref.ensures.value
    c.in-Some-get.ensures.lookup.3.0 c.in-Some-get.ensures.lookup.1))
    ∙ ap (callee_signature r)
    (sym (ap (option_map (λ (b : Bor Specialization). b.now)) c.in-Some.is) ∙ c.called.ensures)

pub returns-in-None-get : goal.returns-in-None-get
returns-in-None-get c =
    let r = c.args.env.now.reached.now in
    let s = c.in-Some.callee.now in
    c.nothing.ensures
    ∙ sym (ap (λ o. either_or (option_map (declared_signature s.statics.items) o) nothing)
    (past c.deref.result.now r.nodes.items s.node.0 c.deref.ensures.value
    c.in-None-get.ensures.lookup.3))
    ∙ ap (callee_signature r)
    (sym (ap (option_map (λ (b : Bor Specialization). b.now)) c.in-Some.is) ∙ c.called.ensures)
