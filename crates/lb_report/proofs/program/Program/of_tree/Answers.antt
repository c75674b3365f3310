-- Each part refuses only what the parts before it accept.
use Rattle.std.proofs.Common.{◌≡◌, ◌∙◌, Ok, Err, None, ap, subst}
use Rattle.std.proofs.lemmas.Result.{err_from_is_err_and}
use Rattle.lb_syntax.specs.SourceView.{view_source}
use Rattle.lb_static.specs.Elaborated.{IsElaborated, elaborated_program}
use Rattle.lb_static.specs.Correct.{Elaborates}
use Rattle.lb_static.specs.Instances.{Program}
use Rattle.lb_static.specs.Instantiation.{static_refusal}
use Rattle.lb_check.specs.Acceptance.{check_refusal}
use Rattle.lb_cause.specs.Correct.{IsAnswer}
use Rattle.lb_expand.specs.Correct.{IsExpansionAnswer}
use Rattle.lb_flat.specs.Programs as flat
use Rattle.lb_report.specs.Bench.{program_of}
use Rattle.lb_report.proofs.Refusing.{accepted_is, is_cycle, placed_cycle, same_program}
use Rattle.lb_report.proofs.Refusing.{too_large}
use Rattle.lb_report.proofs.program.Program.of_tree.Goals as goal

pub returns-in_err-elab-clause-err : goal.returns-in_err-elab-clause-err
returns-in_err-elab-clause-err c =
    let p = err_from_is_err_and c.from_residual.result c.from_residual.ensures.1 in
    let tree = view_source c.args.tree.now in
    let same = same_program tree c.args.options.now _ _ c.as_str.ensures.value
    c.observer_name.ensures in
    let refused = subst (λ (P : Program). Elaborates P (Err c.in_err-elab.field-0.0)) same
    c.in_err-elab.ensures in
    λ source traces only. rw (p.1, p.2) (record { tree = tree; spelled = only; holds = refused })

pub returns-in_err-checked-clause-err : goal.returns-in_err-checked-clause-err
returns-in_err-checked-clause-err c =
    let residual = c.from_residual-in_err-checked in
    let p = err_from_is_err_and residual.result residual.ensures.1 in
    let tree = view_source c.args.tree.now in
    let same = same_program tree c.args.options.now _ _ c.as_str.ensures.value
    c.observer_name.ensures in
    let of : elaborated_program c.in_ok-elab.elab ≡ program_of tree c.args.options.now =
    c.in_ok-elab.ensures ∙ same in
    let accepted = subst (λ (P : Program). static_refusal P ≡ None) of
    c.in_err-checked.ensures.lawful.accepted in
    let refused = subst (λ (P : Program). IsAnswer P (Err c.in_err-checked.field-0.0)) of
    c.in_err-checked.ensures.answer in
    λ source traces only. rw (p.1, p.2)
    (record { tree = tree; spelled = only; holds = (accepted, refused) })

pub returns-in_err-flat-clause-err : goal.returns-in_err-flat-clause-err
returns-in_err-flat-clause-err c =
    let residual = c.from_residual-in_err-flat in
    let p = err_from_is_err_and residual.result residual.ensures.1 in
    let tree = view_source c.args.tree.now in
    let P = program_of tree c.args.options.now in
    let same = same_program tree c.args.options.now _ _ c.as_str.ensures.value
    c.observer_name.ensures in
    let given : elaborated_program c.in_ok-elab.elab ≡ P = c.in_ok-elab.ensures ∙ same in
    let of : elaborated_program c.in_ok-checked.checked.elab ≡ P =
    ap elaborated_program c.in_ok-checked.ensures.same ∙ given in
    let accepted = subst (λ (P : Program). static_refusal P ≡ None) given
    c.in_ok-checked.ensures.lawful.accepted in
    let checked = subst (λ (P : Program). check_refusal P ≡ None) given
    c.in_ok-checked.ensures.answer in
    let refused = too_large P c.in_err-flat.field-0.0 accepted checked
    (subst (λ (P : Program). IsExpansionAnswer P (Err c.in_err-flat.field-0.0)) of
    c.in_err-flat.ensures) in
    λ source traces only. rw (p.1, p.2) (record { tree = tree; spelled = only; holds = refused })

pub returns-clause-err : goal.returns-clause-err
returns-clause-err c =
    let tree = view_source c.args.tree.now in
    let P = program_of tree c.args.options.now in
    let same = same_program tree c.args.options.now _ _ c.as_str.ensures.value
    c.observer_name.ensures in
    let given : elaborated_program c.in_ok-elab.elab ≡ P = c.in_ok-elab.ensures ∙ same in
    let of : elaborated_program c.in_ok-checked.checked.elab ≡ P =
    ap elaborated_program c.in_ok-checked.ensures.same ∙ given in
    let accepted = subst (λ (P : Program). static_refusal P ≡ None) given
    c.in_ok-checked.ensures.lawful.accepted in
    let checked = subst (λ (P : Program). check_refusal P ≡ None) given
    c.in_ok-checked.ensures.answer in
    let answer = subst (λ (P : Program). IsExpansionAnswer P (Ok c.in_ok-flat.flat)) of
    c.in_ok-flat.ensures in
    let refused = placed_cycle P c.in-Err.cause c.with_places.result c.with_places.ensures
    (is_cycle P (flat.program_of c.in_ok-flat.flat.program) c.in-Err.cause accepted checked
    answer.0 answer.1 c.in-Err.ensures.cycle c.in-Err.ensures.cyclic) in
    λ source traces only. record { tree = tree; spelled = only; holds = refused }

pub returns-in-Ok-clause-ok : goal.returns-in-Ok-clause-ok
returns-in-Ok-clause-ok c =
    let tree = view_source c.args.tree.now in
    let P = program_of tree c.args.options.now in
    let same = same_program tree c.args.options.now _ _ c.as_str.ensures.value
    c.observer_name.ensures in
    let of : elaborated_program c.in_ok-checked.checked.elab ≡ P =
    ap elaborated_program c.in_ok-checked.ensures.same ∙ c.in_ok-elab.ensures ∙ same in
    let law = c.signature.ensures.lawful in
    let here = subst (λ (P : Program). IsElaborated P c.in_ok-checked.checked.elab) of
    law.elaborated in
    let checked = subst (λ (P : Program). check_refusal P ≡ None) of law.accepted in
    let answer = subst (λ (P : Program). IsExpansionAnswer P (Ok c.in_ok-flat.flat)) of
    c.in_ok-flat.ensures in
    let found = accepted_is P (flat.program_of c.in-Ok.ordered.program) here.accepted checked
    answer.0 (c.in-Ok.ensures.stands P answer.1) (c.in-Ok.ensures.causal P answer.1) in
    record {
      accepted = found.0;
      inputs = here.inputs;
      equations = found.1;
    }
