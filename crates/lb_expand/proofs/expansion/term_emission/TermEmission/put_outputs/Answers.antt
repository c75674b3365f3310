use Rattle.lb_expand.proofs.Words.{◌≡◌, ◌+◌, ◌-◌, ℕ, List, OnOk, refl, ap, subst, ◌∙◌, append_assoc}
use Rattle.lb_expand.proofs.Words.{range_with_len, Emitted, gives, gathered_at, elements_of}
use Rattle.lb_expand.proofs.Words.{numbers_of, state_of, emitted_of, onto}
use Rattle.lb_expand.proofs.emission.EmittedCalls.{map_outputs, red_outputs, fill_outputs}
use Rattle.lb_expand.proofs.expansion.term_emission.TermEmission.put_outputs.Goals as goal

pub returns-in-Map-clause-emitted : goal.returns-in-Map-clause-emitted
returns-in-Map-clause-emitted g c =
    let ctx = g.F.Frame.context c.args.frame.now in
    let old = c.args.self.now in
    let n = c.args.callee in
    let r = c.put_gathered in
    subst (λ s. OnOk r.result (emitted_of r.new.self ≡ s))
    (ap (λ (is : List ℕ). onto (numbers_of old.found.items) (gives (state_of old) is))
    (map_outputs ctx c.args.call c.repeats-repeats.result n.inputs (n.inputs + n.outputs)
    c.args.iterator n c.in-Map.is refl refl c.repeats-repeats.ensures))
    r.ensures.emitted

pub returns-in-Red-clause-emitted : goal.returns-in-Red-clause-emitted
returns-in-Red-clause-emitted g c =
    let ctx = g.F.Frame.context c.args.frame.now in
    let old = c.args.self.now in
    let n = c.args.callee in
    let r = c.put in
    subst (λ s. OnOk r.result (emitted_of r.new.self ≡ s))
    (ap (λ (is : List ℕ). onto (numbers_of old.found.items) (gives (state_of old) is))
    (red_outputs ctx c.args.call c.repeats-repeats.result c.saturating_sub.result n.inputs
    (elements_of c.child.result) c.args.iterator n c.in-Red.is refl
    c.saturating_sub.ensures c.repeats-repeats.ensures c.child.ensures.places))
    r.ensures.emitted

pub returns-in_ok-put-in-Fill-clause-emitted : goal.returns-in_ok-put-in-Fill-clause-emitted
returns-in_ok-put-in-Fill-clause-emitted g c =
    let ctx = g.F.Frame.context c.args.frame.now in
    let old = c.args.self.now in
    let n = c.args.callee in
    let end = n.inputs + n.outputs in
    let m = c.repeats-repeats.result in
    let is = elements_of c.child-in-Fill.result in
    let below = numbers_of old.found.items in
    let outs = gathered_at ctx c.args.call m
    (range_with_len (n.inputs + 1) (end - (n.inputs + 1))) in
    let r = c.put_gathered-in-Fill in
    subst (λ s. OnOk r.result (emitted_of r.new.self ≡ s))
    (ap (λ (x : Emitted). onto x.found (gives x.state outs)) c.in_ok-put-in-Fill.ensures.emitted
    ∙ ap (λ (is : List ℕ). gives (state_of old) is) (append_assoc below is outs)
    ∙ ap (λ (is : List ℕ). onto below (gives (state_of old) is))
    (fill_outputs ctx c.args.call m c.saturating_sub-in-Fill.result n.inputs end is
    c.args.iterator n c.in-Fill.is refl refl c.saturating_sub-in-Fill.ensures
    c.repeats-repeats.ensures c.child-in-Fill.ensures.places))
    r.ensures.emitted
