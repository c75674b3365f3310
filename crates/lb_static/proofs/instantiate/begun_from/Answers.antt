-- An instance is judged by the evaluation of its node, or by the specialization that was found.
use Rattle.std.proofs.Common.{◌∙◌, Ok, Err, ap, length, subst}
use Rattle.std.specs.Borrow.{Bor}
use Rattle.std.proofs.lemmas.Option.{get_or_from_slice_get}
use Rattle.std.proofs.lemmas.Result.{err_from_is_err_and}
use Rattle.lb_static.specs.HeldValues.{value_of}
use Rattle.lb_static.specs.InstanceTable.{instance_of}
use Rattle.lb_static.specs.ResolvedNodes.{node_of}
use Rattle.lb_static.specs.Specialized.{IsEvaluated, value_given}
use Rattle.lb_static.specs.declared.resolved.ResolvedNode.{ResolvedNode}
use Rattle.lb_static.specs.declared.table.Specialization.{Specialization}
use Rattle.lb_static.specs.declared.table.SpecializationId.{SpecializationId}
use Rattle.lb_static.proofs.EntryCounts.{as_many_items}
use Rattle.lb_static.proofs.InstanceSteps.{begun_ill, begun_well, judgement, known_judged, sized_at}
use Rattle.lb_static.proofs.instantiate.begun_from.Goals as goal

pub returns-then-len-clause-judged : goal.returns-then-len-clause-judged
returns-then-len-clause-judged c = λ P p n before w at k few low.
    let held = c.in_ok-held.held.items in
    let f : SpecializationId × Bor Specialization = (c.in-Some.id, c.in-Some.specialization) in
    let judged = known_judged P c.args.place.now.reached.now c.args.found f c.args.node
    c.args.values.now held
    k c.in-Some.is (c.in_ok-held.ensures.items ∙ c.deref.ensures.value) p n at in (
      judged,
      begun_well P before (instance_of p (node_of n) c.args.values.now) n held few low
          judged,
    )

pub returns-in_err-statics-clause-judged : goal.returns-in_err-statics-clause-judged
returns-in_err-statics-clause-judged c =
    let from = err_from_is_err_and c.from_residual-in_err-statics.result
    c.from_residual-in_err-statics.ensures.1 in
    rw (from.1, from.2) (λ P p n before w at k few low.
    let constants = c.args.constants.now in
    let values = c.args.values.now in
    let resolved = c.index-resolved.result.now in
    let e = c.in_err-statics.field-0.0 in
    let same = c.index-resolved.ensures
    ∙ get_or_from_slice_get c.args.place.now.reached.now.nodes.items c.args.node.0 n
    c.index-resolved.result.now at in
    let here = subst (λ ps. IsEvaluated (value_given (value_of constants) ps values) resolved
    (Err e)) c.deref-2.ensures.value c.in_err-statics.ensures in
    let judged = judgement P p n values c.args.place.now.reached.now constants w c.args.node.0 at
    (Err e)
    (subst (λ m. IsEvaluated (value_given (value_of constants) (node_of m).parameters values) m
    (Err e)) same here) in
    begun_ill P before (instance_of p (node_of n) values) n e few low judged)

pub returns-clause-sized : goal.returns-clause-sized
returns-clause-sized c =
    sized_at c.args.place.now.reached.now.nodes.items c.args.node.0 c.index-resolved.result.now _
    (Ok c.in_ok-statics.statics) c.index-resolved.ensures c.in_ok-statics.ensures

pub returns-clause-judged : goal.returns-clause-judged
returns-clause-judged c = λ P p n before w at k few low.
    let constants = c.args.constants.now in
    let values = c.args.values.now in
    let resolved = c.index-resolved.result.now in
    let statics = c.in_ok-statics.statics in
    let same = c.index-resolved.ensures
    ∙ get_or_from_slice_get c.args.place.now.reached.now.nodes.items c.args.node.0 n
    c.index-resolved.result.now at in
    let here = subst (λ ps. IsEvaluated (value_given (value_of constants) ps values) resolved
    (Ok statics)) c.deref-2.ensures.value c.in_ok-statics.ensures in
    let judged = judgement P p n values c.args.place.now.reached.now constants w c.args.node.0 at
    (Ok statics)
    (subst (λ m. IsEvaluated (value_given (value_of constants) (node_of m).parameters values) m
    (Ok statics)) same here) in
    (judged, begun_well P before (instance_of p (node_of n) values) n statics.items few low judged)

pub returns-then-len-clause-sized : goal.returns-then-len-clause-sized
returns-then-len-clause-sized c n at =
    let resolved = c.index-resolved.result.now in
    ap length (c.in_ok-held.ensures.items ∙ c.deref.ensures.value)
    ∙ as_many_items c.in-Some.specialization.now.statics resolved.statics c.len.result
    c.len-in-Some.result c.len.ensures c.len-in-Some.ensures c.if-len.true
    ∙ ap (λ (m : ResolvedNode). length m.statics.items) (c.index-resolved.ensures
    ∙ get_or_from_slice_get c.args.place.now.reached.now.nodes.items c.args.node.0 n resolved at)
