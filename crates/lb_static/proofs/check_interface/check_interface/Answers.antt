use Rattle.std.proofs.Common.{ap, map, option_map, sym, ◌∙◌}
use Rattle.std.proofs.lemmas.Result.{err_from_is_err_and}
use Rattle.lb_syntax.specs.Lists.{holds}
use Rattle.lb_static.specs.Instances.{Root}
use Rattle.lb_static.specs.Instantiation.{is_root}
use Rattle.lb_static.specs.Interfaces.{view_interface, inputs_of, elements_named}
use Rattle.lb_static.specs.RootAnswers.{is_root_in}
use Rattle.lb_static.specs.declared.valued_node.ValuedNode.{ValuedNode}
use Rattle.lb_static.proofs.RootFaults.{seen_some, root_fault, root_answer}
use Rattle.lb_static.proofs.InterfaceRules.{root_has_face, root_is}
use Rattle.lb_static.proofs.RootStarts.{nothing_stands}
use Rattle.lb_static.proofs.check_interface.check_interface.Goals as goal

pub returns-in_err-root : goal.returns-in_err-root
returns-in_err-root c P names reached table instantiated =
    let p = err_from_is_err_and c.from_residual.result
    c.from_residual.ensures.1 in
    let found = seen_some (λ s. (s.node.now, s.statics.now)) c.valued_node.result
    c.in-Some.found _ c.valued_node.ensures c.in-Some.is in
    rw (p.1, p.2) (root_fault P c.in_err-root.field-0.0 c.in_err-root.ensures
    (λ e. absurd (root_has_face P c.args.reached.now c.args.table.now c.in-Some.found.node.now
    c.in-Some.found.statics.now reached table instantiated found e)))

pub returns : goal.returns
returns c P names reached table instantiated =
    let found = seen_some (λ s. (s.node.now, s.statics.now)) c.valued_node.result
    c.in-Some.found _ c.valued_node.ensures c.in-Some.is in
    let root = view_interface c.in_ok-root.root in
    let is = root_is P c.args.reached.now c.args.table.now c.in-Some.found.node.now
    c.in-Some.found.statics.now root reached table found c.in_ok-root.ensures in
    root_answer P (is_root_in c.args.reached.now c.args.table.now root)
    (elements_named (map (λ d. d.name) root.node.inputs) (inputs_of root)) _ is.0 is.1
    c.interface_signature.ensures

pub returns-in_default : goal.returns-in_default
returns-in_default c P names reached table instantiated =
    let none = sym c.valued_node.ensures
    ∙ ap (option_map (λ (v : ValuedNode). (v.node.now, v.statics.now))) c.in_default.is in
    root_fault P c.missing_fault.result c.missing_fault.ensures
    (λ _. ap (holds (is_root P)) (sym table.root
    ∙ nothing_stands c.args.reached.now c.args.table.now Root c.args.table.now.root none))
