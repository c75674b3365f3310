-- The specialization, and its node.
use Rattle.std.proofs.Common.{◌≡◌, ℤ, List, Some, None, ap, refl, sym, ◌∙◌}
use Rattle.std.proofs.Common.{option_map}
use Rattle.std.specs.Prelude.{slice_get}
use Rattle.lb_static.specs.Interfaces.{valued_node_in}
use Rattle.lb_static.specs.declared.reachable.Reached.{Reached}
use Rattle.lb_static.specs.declared.resolved.ResolvedNode.{ResolvedNode}
use Rattle.lb_static.specs.declared.table.Specialization.{Specialization}
use Rattle.lb_static.specs.declared.table.SpecializationId.{SpecializationId}
use Rattle.lb_static.specs.declared.table.Table.{Table}
use Rattle.lb_static.specs.declared.valued_node.ValuedNode.{ValuedNode}
use Rattle.lb_static.proofs.Lookups.{held, past}
use Rattle.lb_static.proofs.valued_node.valued_node.Goals as goal

with_node : (r : Reached) (t : Table) (id : SpecializationId) (s : Specialization)
    (n : ResolvedNode) (statics : List ℤ) → slice_get t.specializations.items id.0 ≡ Some s
    → slice_get r.nodes.items s.node.0 ≡ Some n → statics ≡ s.statics.items
    → valued_node_in r t id ≡ Some (n, statics)
with_node r t id s n statics found node same = rw (found, node, same) refl

without_node : (r : Reached) (t : Table) (id : SpecializationId) (s : Specialization)
    → slice_get t.specializations.items id.0 ≡ Some s → slice_get r.nodes.items s.node.0 ≡ None
    → valued_node_in r t id ≡ None
without_node r t id s found none = rw (found, none) refl

nowhere : (r : Reached) (t : Table) (id : SpecializationId)
    → slice_get t.specializations.items id.0 ≡ None → valued_node_in r t id ≡ None
nowhere r t id none = rw none refl

pub returns : goal.returns
returns c =
    let s = c.in_ok-specialization.specialization.now in
    let n = c.in_ok-node.node.now in
    sym (with_node c.args.reached.now c.args.table.now c.args.id s n c.as_slice.result.now
    (held c.deref.result.now c.args.table.now.specializations.items c.args.id.0 s
    c.deref.ensures.value c.in_ok-specialization.ensures.lookup.3.0
    c.in_ok-specialization.ensures.lookup.1)
    (held c.deref-2.result.now c.args.reached.now.nodes.items s.node.0 n c.deref-2.ensures.value
    c.in_ok-node.ensures.lookup.3.0 c.in_ok-node.ensures.lookup.1)
    c.as_slice.ensures.value)

pub returns-in_err-node : goal.returns-in_err-node
returns-in_err-node c =
    let s = c.in_ok-specialization.specialization.now in
    ap (option_map (λ (v : ValuedNode). (v.node.now, v.statics.now)))
    c.from_residual-in_err-node.ensures
    ∙ sym (without_node c.args.reached.now c.args.table.now c.args.id s
    (held c.deref.result.now c.args.table.now.specializations.items c.args.id.0 s
    c.deref.ensures.value c.in_ok-specialization.ensures.lookup.3.0
    c.in_ok-specialization.ensures.lookup.1)
    (past c.deref-2.result.now c.args.reached.now.nodes.items s.node.0 c.deref-2.ensures.value
    c.in_err-node.ensures.lookup.3))

pub returns-in_err-specialization : goal.returns-in_err-specialization
returns-in_err-specialization c =
    ap (option_map (λ (v : ValuedNode). (v.node.now, v.statics.now))) c.from_residual.ensures
    ∙ sym (nowhere c.args.reached.now c.args.table.now c.args.id
    (past c.deref.result.now c.args.table.now.specializations.items c.args.id.0
    c.deref.ensures.value c.in_err-specialization.ensures.lookup.3))
