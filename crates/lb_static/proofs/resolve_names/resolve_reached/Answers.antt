-- The parts of the rules of names are judged one after the other.
use Rattle.std.proofs.Common.{◌≡◌, All, Err, true, map, ap, sym, subst, ◌∙◌}
use Rattle.std.specs.Prelude.{option_map}
use Rattle.std.specs.List.{list_all}
use Rattle.std.proofs.lemmas.Result.{err_from_is_err_and}
use Rattle.lb_syntax.specs.SourceView.{view_source}
use Rattle.lb_static.specs.CalledNodes.{Reaches}
use Rattle.lb_static.specs.CountedNames.{keeps_names_where}
use Rattle.lb_static.specs.Names.{keeps_names}
use Rattle.lb_static.specs.Elaborated.{program_of}
use Rattle.lb_static.specs.NamedConstants.{keeps_constants_of, told_constants_of}
use Rattle.lb_static.specs.NameFaults.{IsNameFault, named_in}
use Rattle.lb_static.specs.ResolvedNodes.{IsResolved, node_of}
use Rattle.lb_static.proofs.KeptNames.{fault_constants, fault_named, names_kept, nodes_named}
use Rattle.lb_static.proofs.resolve_names.resolve_reached.Goals as goal

pub returns-in_err-reached : goal.returns-in_err-reached
returns-in_err-reached c =
    let p = err_from_is_err_and c.from_residual.result c.from_residual.ensures.1 in
    let P = program_of c.args.source.now c.args.node.now
    (option_map (λ o. o.now) c.args.observer) in
    subst (Reaches keeps_names keeps_names_where P) (sym (p.1 ∙ ap Err p.2))
    (fault_named P c.in_err-reached.field-0.0 c.in_err-reached.ensures)

pub check_constants-requires-clause-resolved : goal.check_constants-requires-clause-resolved
check_constants-requires-clause-resolved c =
    let s = view_source c.args.source.now in
    subst (All (IsResolved (map (λ n. n.name) s.nodes))) (sym c.deref.ensures.value)
    c.in_ok-reached.ensures.1.resolved

pub check_constants-requires-clause-named : goal.check_constants-requires-clause-named
check_constants-requires-clause-named c =
    let s = view_source c.args.source.now in
    let P = program_of c.args.source.now c.args.node.now
    (option_map (λ o. o.now) c.args.observer) in
    subst (λ l. list_all (λ r. named_in s (node_of r)) l ≡ true) (sym c.deref.ensures.value)
    (nodes_named P c.in_ok-reached.reached c.in_ok-reached.ensures.1
    c.in_ok-reached.ensures.0)

pub returns-in_err-check_constants : goal.returns-in_err-check_constants
returns-in_err-check_constants c =
    let p = err_from_is_err_and c.from_residual-in_err-check_constants.result
    c.from_residual-in_err-check_constants.ensures.1 in
    let s = view_source c.args.source.now in
    let P = program_of c.args.source.now c.args.node.now
    (option_map (λ o. o.now) c.args.observer) in
    let e = c.in_err-check_constants.field-0.0 in
    let fault = subst (λ l. IsNameFault e (told_constants_of e s l)) c.deref.ensures.value
    c.in_err-check_constants.ensures.err in
    subst (Reaches keeps_names keeps_names_where P) (sym (p.1 ∙ ap Err p.2))
    (fault_constants P c.in_ok-reached.reached c.in_ok-reached.ensures.1 e fault)

pub returns : goal.returns
returns c =
    let s = view_source c.args.source.now in
    let P = program_of c.args.source.now c.args.node.now
    (option_map (λ o. o.now) c.args.observer) in
    let kept = subst (λ l. keeps_constants_of s l ≡ true) c.deref.ensures.value
    c.in_ok-check_constants.ensures.ok in (
      names_kept P c.in_ok-reached.reached c.in_ok-reached.ensures.1 c.requires.once
          c.in_ok-reached.ensures.0 kept,
      c.in_ok-reached.ensures.1,
    )
