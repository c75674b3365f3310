-- A cycle of calls is recursion; nodes in an order have none.
use Rattle.std.proofs.Common.{All, ◌<◌, length, map, ap, sym, subst, ◌∙◌}
use Rattle.lb_static.specs.CallGraphs.{AreWithin, IsCallCycle, IsCycleAnswer, graph_of}
use Rattle.lb_static.specs.CallGraphs.{names_at}
use Rattle.lb_static.proofs.ReachedCalls.{cycle_told, cycle_unfounded, cycle_within, graph_within}
use Rattle.lb_static.proofs.ReachedCalls.{ordered_founded}
use Rattle.lb_static.proofs.check_recursion.check_recursion.Goals as goal

pub find_cycle-requires : goal.find_cycle-requires
find_cycle-requires c =
    let same = ap (λ g. map (λ v. v.items) g) c.deref.ensures.value ∙ c.in_ok-graph.ensures in
    subst AreWithin (sym same) (graph_within c.args.reached.now)

pub returns-in-None-clause-answer : goal.returns-in-None-clause-answer
returns-in-None-clause-answer c P keeps is =
    let same = ap (λ g. map (λ v. v.items) g) c.deref.ensures.value ∙ c.in_ok-graph.ensures in
    let found = subst (λ g. IsCycleAnswer g c.in_ok-find_cycle.field-0) same
    c.in_ok-find_cycle.ensures in
    ordered_founded P c.args.reached.now is keeps
    (subst (IsCycleAnswer (graph_of c.args.reached.now)) c.in-None.is found)

pub call_cycle-requires : goal.call_cycle-requires
call_cycle-requires c =
    let r = c.args.reached.now in
    let same = ap (λ g. map (λ v. v.items) g) c.deref.ensures.value ∙ c.in_ok-graph.ensures in
    let found = subst (λ g. IsCycleAnswer g c.in_ok-find_cycle.field-0) same
    c.in_ok-find_cycle.ensures in
    let cycle = subst (IsCycleAnswer (graph_of r)) c.in-Some.is found in
    subst (All (λ i. i < length r.nodes.items)) (sym c.deref-in-Some.ensures.value)
    (cycle_within r c.in-Some.cycle.items cycle)

pub returns-clause-answer : goal.returns-clause-answer
returns-clause-answer c P keeps is =
    let r = c.args.reached.now in
    let same = ap (λ g. map (λ v. v.items) g) c.deref.ensures.value ∙ c.in_ok-graph.ensures in
    let found = subst (λ g. IsCycleAnswer g c.in_ok-find_cycle.field-0) same
    c.in_ok-find_cycle.ensures in
    let cycle = subst (IsCycleAnswer (graph_of r)) c.in-Some.is found in
    cycle_unfounded P r is c.in-Some.cycle.items cycle

pub returns-clause-told : goal.returns-clause-told
returns-clause-told c P keeps is =
    let r = c.args.reached.now in
    let same = ap (λ g. map (λ v. v.items) g) c.deref.ensures.value ∙ c.in_ok-graph.ensures in
    let found = subst (λ g. IsCycleAnswer g c.in_ok-find_cycle.field-0) same
    c.in_ok-find_cycle.ensures in
    let cycle = subst (IsCycleAnswer (graph_of r)) c.in-Some.is found in
    subst (IsCallCycle P) (sym (c.in_ok-call_cycle-in-Some.ensures
    ∙ ap (names_at r) c.deref-in-Some.ensures.value))
    (cycle_told P r is c.in-Some.cycle.items cycle)
