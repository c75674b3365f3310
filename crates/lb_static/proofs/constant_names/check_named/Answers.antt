-- The constants that came up first are those that the nodes name.
use Rattle.std.proofs.Common.{◌≡◌, List, IfErr, ap, length, sym, subst, ◌∙◌}
use Rattle.std.specs.Prelude.{flat_map, map}
use Rattle.std.proofs.lemmas.List.{length-map}
use Rattle.lb_syntax.specs.SourceView.{view_constant, view_source}
use Rattle.lb_syntax.specs.Tree.{Name}
use Rattle.lb_static.specs.NamedConstants.{AreNamed, told_constants, node_constants}
use Rattle.lb_static.specs.NameFaults.{IsNameFault, alone}
use Rattle.lb_static.specs.Names.{named_constants}
use Rattle.lb_static.specs.ResolvedNodes.{node_of}
use Rattle.lb_static.specs.WorkLists.{visited_after_all}
use Rattle.lb_static.proofs.ConstantPlaces.{err_more, ok_more}
use Rattle.lb_static.proofs.NamedPlaces.{named_places}
use Rattle.lb_static.proofs.constant_names.check_named.Goals as goal

pub returns-clause-ok : goal.returns-clause-ok
returns-clause-ok c =
    let s = view_source c.args.source.now in
    let g = c.args.globals.now in
    let nodes = c.args.nodes.now in
    let xs = flat_map (named_constants (alone s)) (map node_of nodes) in
    let count : g.constants ≡ length s.constants =
    c.requires.constants ∙ sym (length-map c.args.source.now.constants.items view_constant) in
    let places = named_places s g c.requires.names count c.requires.once nodes c.requires.resolved
    c.requires.named in
    let order = c.in_ok-visit_nodes.ensures.order
    ∙ ap (λ o. visited_after_all o (flat_map (node_constants g) nodes)) c.requires.none in
    ok_more c.check_visited.result _ _ c.check_visited.ensures.ok
    (λ h. h xs (subst (AreNamed s xs) (sym order) places))

pub returns-clause-err : goal.returns-clause-err
returns-clause-err c =
    let s = view_source c.args.source.now in
    let g = c.args.globals.now in
    let nodes = c.args.nodes.now in
    let xs = flat_map (named_constants (alone s)) (map node_of nodes) in
    let count : g.constants ≡ length s.constants =
    c.requires.constants ∙ sym (length-map c.args.source.now.constants.items view_constant) in
    let places = named_places s g c.requires.names count c.requires.once nodes c.requires.resolved
    c.requires.named in
    let order = c.in_ok-visit_nodes.ensures.order
    ∙ ap (λ o. visited_after_all o (flat_map (node_constants g) nodes)) c.requires.none in
    let fault : IfErr c.check_visited.result
    (λ e. (ys : List Name) → AreNamed s ys c.visit_nodes.new.work_list.order
    → IsNameFault e (told_constants e s ys)) = c.check_visited.ensures.err in
    err_more c.check_visited.result _ _ fault
    (λ e h. h xs (subst (AreNamed s xs) (sym order) places))
