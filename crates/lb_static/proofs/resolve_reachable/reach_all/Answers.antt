-- The nodes that came up are the reached nodes.
use Rattle.std.proofs.Common.{◌≡◌, ◌≤◌, Bool, length, true, arith, ap, sym, subst, ◌∙◌}
use Rattle.std.specs.Prelude.{option_map, Ok, Err}
use Rattle.std.specs.List.{list_all}
use Rattle.std.proofs.lemmas.Bool.{and_right}
use Rattle.std.proofs.lemmas.Result.{err_from_is_err_and}
use Rattle.lb_syntax.specs.Tree.{Node}
use Rattle.std.proofs.lemmas.List.{length-map}
use Rattle.lb_syntax.specs.SourceView.{view_node}
use Rattle.lb_static.specs.CalledNodes.{Reaches, are_named}
use Rattle.lb_static.specs.CountedNames.{are_named_where, is_named_where, starts_where}
use Rattle.lb_static.specs.NameFaults.{is_told}
use Rattle.lb_static.specs.Names.{start_names}
use Rattle.lb_static.specs.Parts.{among}
use Rattle.lb_static.proofs.Faults.{fault_within}
use Rattle.lb_static.specs.Elaborated.{program_of}
use Rattle.lb_static.specs.Instances.{Program}
use Rattle.lb_static.specs.ReachedNodes.{IsReached}
use Rattle.lb_static.specs.declared.reachable.Reached.{Reached}
use Rattle.lb_static.proofs.ReachedPlaces.{is_reached, named, reached_is}
use Rattle.lb_static.proofs.resolve_reachable.reach_all.Goals as goal

reaches : (P : Program) (r : Reached) → are_named P ≡ true → IsReached P r →
    Reaches are_named are_named_where P (Ok r)
reaches P r passes reached = (passes, reached)

pub returns-in_err-resolve_visited : goal.returns-in_err-resolve_visited
returns-in_err-resolve_visited c =
    let p = err_from_is_err_and c.from_residual-in_err-resolve_visited.result
    c.from_residual-in_err-resolve_visited.ensures.1 in
    let P = program_of c.args.source.now c.args.node.now
    (option_map (λ o. o.now) c.args.observer) in
    let e = c.in_err-resolve_visited.field-0.0 in
    let start : Node → Bool = λ n. among n.name (start_names P) in
    let fault = c.in_err-resolve_visited.ensures.err start c.in_ok-root.ensures.starts.reachable in
    subst (Reaches are_named are_named_where P) (sym (p.1 ∙ ap Err p.2))
    (fault_within e _ (are_named_where (is_told e) P) fault (λ fails.
    and_right (starts_where (is_told e) P) _
    (ap (list_all (is_named_where (is_told e) P)) (reached_is P start (length P.source.nodes))
    ∙ fails)))

pub returns : goal.returns
returns c =
    let items = c.args.source.now.nodes.items in
    let P = program_of c.args.source.now c.args.node.now
    (option_map (λ o. o.now) c.args.observer) in
    let turns = c.turns.result.now in
    let many : length turns ≡ length P.source.nodes =
    omega (
      arith,
      c.turns.ensures.count,
      c.in_ok-resolve_visited.ensures.count,
      c.in_ok-root.ensures.count,
      c.requires.count,
      length-map items view_node,
    ) in
    let few : length c.resolve_visited.new.work_list.order ≤ length P.source.nodes =
    omega (
      arith,
      c.in_ok-resolve_visited.ensures.few,
      c.in_ok-resolve_visited.ensures.count,
      c.in_ok-root.ensures.count,
      c.requires.count,
      length-map items view_node,
    ) in
    let reached : Reached = record {
      nodes = c.resolve_visited.new.nodes;
      ids = c.in_ok-ids.ids;
      root = c.in_ok-root.root;
      observer = c.in_ok-root.observer;
    } in
    reaches P reached
    (named P c.visit_starts.new.work_list.order c.resolve_visited.new.work_list.order
    c.resolve_visited.new.nodes.items c.in_ok-root.root c.in_ok-root.observer
    c.requires.once c.in_ok-root.ensures.starts c.in_ok-resolve_visited.ensures.resolved
    c.in_ok-resolve_visited.ensures.all few)
    (is_reached P c.visit_starts.new.work_list.order c.resolve_visited.new.work_list.order
    reached turns c.in_ok-root.ensures.starts c.in_ok-resolve_visited.ensures.resolved
    c.in_ok-resolve_visited.ensures.all c.turns.ensures.turns c.in_ok-ids.ensures
    c.requires.once many)
