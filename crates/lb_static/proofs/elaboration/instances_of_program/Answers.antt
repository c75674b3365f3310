-- The instances are judged after recursion and the static parameters of the node under test.
use Rattle.std.proofs.Common.{◌≡◌, true, length, map, ap, sym, subst, ◌∙◌}
use Rattle.std.proofs.lemmas.List.{length-map}
use Rattle.std.proofs.lemmas.Result.{err_from_is_err_and}
use Rattle.lb_syntax.specs.SourceView.{view_constant}
use Rattle.lb_static.specs.HeldValues.{value_of}
use Rattle.lb_static.specs.Names.{is_well_founded}
use Rattle.lb_static.specs.StaticValues.{constant_value}
use Rattle.lb_static.specs.Instantiation.{has_no_parameters}
use Rattle.lb_static.proofs.StaticRefusals.{calls_fault, parameters_fault, table_answer}
use Rattle.lb_static.proofs.elaboration.instances_of_program.Goals as goal

pub returns-in_err-check_recursion : goal.returns-in_err-check_recursion
returns-in_err-check_recursion c P names reached source =
    let p = err_from_is_err_and c.from_residual.result c.from_residual.ensures.1 in
    rw (p.1, p.2) (calls_fault P c.in_err-check_recursion.field-0.0 names
    (c.in_err-check_recursion.ensures.answer P names reached)
    (c.in_err-check_recursion.ensures.told P names reached))

pub returns-then-not-have_no_parameters : goal.returns-then-not-have_no_parameters
returns-then-not-have_no_parameters c P names reached source =
    let calls : is_well_founded P ≡ true = c.in_ok-check_recursion.ensures.answer P names reached in
    parameters_fault P c.parameters_fault.result names calls
    (sym (c.have_no_parameters.ensures P reached) ∙ c.if-not-have_no_parameters.true)
    c.parameters_fault.ensures

pub returns : goal.returns
returns c P names reached source =
    let calls : is_well_founded P ≡ true = c.in_ok-check_recursion.ensures.answer P names reached in
    let parameters : has_no_parameters P ≡ true =
    sym (c.have_no_parameters.ensures P reached) ∙ c.if-not-have_no_parameters.false in
    let constants = c.args.source.now.constants.items in
    let written = subst (λ l. value_of c.in_ok-constants.constants
    ≡ constant_value (map view_constant l) (length l)) c.deref.ensures.value
    c.in_ok-constants.ensures
    ∙ ap (constant_value (map view_constant constants))
    (sym (length-map constants view_constant)) in
    let values = written ∙ ap (λ s. constant_value s.constants (length s.constants)) (sym source) in
    let told = c.instantiate.ensures in
    table_answer P _ _ names calls parameters (told.answer P names reached values)
    (told.specialized P names reached values) (told.rows P names reached values)
