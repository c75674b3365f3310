-- One more node.
use Rattle.std.proofs.Common.{◌≡◌, ◌<◌, ◌≤◌, Some, true, length, map, option_map, refl, ap, sym}
use Rattle.std.proofs.Common.{subst, ◌∙◌, arith, rules}
use Rattle.std.specs.Prelude.{nat_lt, slice_get}
use Rattle.std.specs.List.{list_all}
use Rattle.std.proofs.lemmas.List.{length-map}
use Rattle.std.proofs.lemmas.Option.{slice_get-map, slice_get_read}
use Rattle.std.proofs.lemmas.Result.{err_from_is_err_and}
use Rattle.lb_syntax.specs.SourceView.{view_node, view_source}
use Rattle.lb_static.specs.CalledNodes.{AreResolved, callees}
use Rattle.lb_static.specs.NameFaults.{named_in}
use Rattle.lb_static.specs.ResolvedNodes.{counts_of}
use Rattle.lb_static.specs.WorkLists.{visited_after_all}
use Rattle.lb_static.proofs.CalledNodes.{fault_there, more_resolved, sites_within}
use Rattle.lb_static.proofs.WorkLists.{past_end}
use Rattle.lb_static.proofs.resolve_reachable.resolve_visited.Goals as goal

pub visit_callees-requires : goal.visit_callees-requires
visit_callees-requires c =
    let items = c.args.source.now.nodes.items in
    let r = c.in_ok-node.node in
    let many = length-map (map view_node items) (λ n. n.name) ∙ length-map items view_node
    ∙ sym c.loop-place.invariant.count in
    subst (λ l. list_all (λ s. nat_lt s.callee.0 c.loop-place.work_list.count) l ≡ true)
    (sym c.deref.ensures.value)
    (subst (λ n. list_all (λ s. nat_lt s.callee.0 n) r.calls.items ≡ true) many
    (sites_within _ (counts_of r) r.calls.items c.in_ok-node.ensures.resolved.calls_within))

pub loop-place-preserved : goal.loop-place-preserved
loop-place-preserved c =
    let items = c.args.source.now.nodes.items in
    let s = view_source c.args.source.now in
    let order = c.loop-place.work_list.order in
    let nodes = c.loop-place.nodes.items in
    let r = c.in_ok-node.node in
    let place = c.in-Some.place in
    let turn : c.len.result ≡ length nodes = search rules in
    let next : slice_get order (length nodes) ≡ Some place =
    sym (c.in-Some.ensures.value ∙ ap (slice_get order) turn) in
    let below : place < length items =
    subst (λ n. place < n) c.loop-place.invariant.count c.in-Some.ensures.within in
    let at : slice_get s.nodes place ≡ Some (view_node r.tree.now) =
    slice_get-map view_node items place
    ∙ ap (option_map view_node)
    (slice_get_read items (length items) place c.index.result.now refl below c.index.ensures)
    ∙ ap (λ n. Some (view_node n)) (sym c.in_ok-node.ensures.tree) in
    let named = ap (λ n. named_in s (view_node n)) c.in_ok-node.ensures.tree
    ∙ c.in_ok-node.ensures.named in
    let more = more_resolved s c.args.work_list.now.order order nodes r place
    c.loop-place.invariant.resolved next at c.in_ok-node.ensures.resolved named in
    let after = c.in_ok-visit_callees.ensures.order
    ∙ ap (λ l. visited_after_all order (callees l)) c.deref.ensures.value in
    record {
      count = c.in_ok-visit_callees.ensures.count ∙ c.loop-place.invariant.count;
      resolved =
          subst (λ o. AreResolved s c.args.work_list.now.order o c.push.new.self.items) (sym after)
          (subst (AreResolved s c.args.work_list.now.order
          (visited_after_all order (callees r.calls.items))) (sym c.in_ok-push.ensures.items) more);
    }

pub returns-in_err-node-clause-err : goal.returns-in_err-node-clause-err
returns-in_err-node-clause-err c =
    let p = err_from_is_err_and c.from_residual.result c.from_residual.ensures.1 in
    let items = c.args.source.now.nodes.items in
    let s = view_source c.args.source.now in
    let order = c.loop-place.work_list.order in
    let nodes = c.loop-place.nodes.items in
    let place = c.in-Some.place in
    let turn : c.len.result ≡ length nodes = search rules in
    let next : slice_get order (length nodes) ≡ Some place =
    sym (c.in-Some.ensures.value ∙ ap (slice_get order) turn) in
    let below : place < length items =
    subst (λ n. place < n) c.loop-place.invariant.count c.in-Some.ensures.within in
    let at : slice_get s.nodes place ≡ Some (view_node c.index.result.now) =
    slice_get-map view_node items place
    ∙ ap (option_map view_node)
    (slice_get_read items (length items) place c.index.result.now refl below c.index.ensures) in
    let few : length order ≤ length s.nodes = omega
    (arith, c.in-Some.ensures.few, c.loop-place.invariant.count, length-map items view_node) in
    rw (p.1, p.2) (λ start begins. fault_there _ s c.args.work_list.now.order order nodes place
    (view_node c.index.result.now) start
    c.loop-place.invariant.resolved next at few begins c.in_err-node.ensures.err)

pub returns-clause-all : goal.returns-clause-all
returns-clause-all c =
    let turn : c.len.result ≡ length c.loop-place.nodes.items = search rules in
    let past = past_end c.loop-place.work_list.order c.len.result
    (sym c.in_default.ensures.value) in
    omega (arith, past, c.loop-place.invariant.resolved.few)
