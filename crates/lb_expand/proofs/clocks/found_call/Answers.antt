-- The row, its specialization, and the call of the node, one after the other.
use Rattle.lb_check.specs.declared.found_clocks.{CallClock.CallClock, NodeClocks.NodeClocks}
use Rattle.lb_expand.proofs.Words.{List, None, Some, Specialization, Table, ap, listed, option_map}
use Rattle.lb_expand.proofs.Words.{refl, slice_get, sym, ℕ, ◌∙◌, ◌≡◌}
use Rattle.{lb_expand.specs.TableClocks.found_call, lb_static.proofs.Lookups.{held, looked_up}}
use Rattle.{lb_static.proofs.Lookups.past, std.proofs.Common.Bor}
use Rattle.lb_static.specs.declared.table.Instance as row
use Rattle.lb_expand.proofs.clocks.found_call.Goals as goal

abbrev rows : Table → List row.Instance
rows t = t.instances.items

abbrev specializations : Table → List Specialization
specializations t = t.specializations.items

module _ (t : Table) (found : List NodeClocks) (j n : ℕ) where
  no_row : slice_get t.instances.items j ≡ None → found_call t found j n ≡ None
  no_row none = rw none refl

  no_node :
      (i : row.Instance) → slice_get t.instances.items j ≡ Some i →
      slice_get t.specializations.items i.specialization.0 ≡ None → found_call t found j n ≡ None
  no_node i is none = rw (is, none) refl

  call_of :
      (i : row.Instance) (s : Specialization) → slice_get t.instances.items j ≡ Some i →
      slice_get t.specializations.items i.specialization.0 ≡ Some s →
      found_call t found j n
      ≡ slice_get (listed (λ (f : NodeClocks). f.calls.items) (slice_get found s.node.0)) n
  call_of i s is of_row = rw (is, of_row) refl

pub returns-in_err-row : goal.returns-in_err-row
returns-in_err-row c =
    let x = c.args.checked.now in
    let same = c.table-table.ensures.value ∙ ap (λ e. e.table) c.elab.ensures.value in
    ap (option_map (λ (m : Bor CallClock). m.now)) c.from_residual.ensures
    ∙ sym (no_row x.elab.table x.clocks.items c.args.row.0 c.args.call.0
    (past c.deref.result.now _ _ (c.deref.ensures.value ∙ ap rows same)
    c.in_err-row.ensures.lookup.3))

pub returns-in_err-specialization : goal.returns-in_err-specialization
returns-in_err-specialization c =
    let x = c.args.checked.now in
    let same = c.table-table.ensures.value ∙ ap (λ e. e.table) c.elab.ensures.value in
    let is = c.in_ok-row.ensures.lookup in
    ap (option_map (λ (m : Bor CallClock). m.now)) c.from_residual-in_err-specialization.ensures
    ∙ sym (no_node x.elab.table x.clocks.items c.args.row.0 c.args.call.0 c.in_ok-row.row.now
    (held c.deref.result.now _ _ _ (c.deref.ensures.value ∙ ap rows same) is.3.0 is.1)
    (past c.deref-2.result.now _ _ (c.deref-2.ensures.value ∙ ap specializations same)
    c.in_err-specialization.ensures.lookup.3))

pub returns : goal.returns
returns c =
    let x = c.args.checked.now in
    let s = c.in_ok-specialization.specialization.now in
    let same = c.table-table.ensures.value ∙ ap (λ e. e.table) c.elab.ensures.value in
    let is = c.in_ok-row.ensures.lookup in
    let of_row = c.in_ok-specialization.ensures.lookup in
    let calls = listed (λ (f : NodeClocks). f.calls.items) (slice_get x.clocks.items s.node.0) in
    looked_up c.get-3.result c.call_clocks.result.now calls c.args.call.0
    c.call_clocks.ensures.value c.get-3.ensures.lookup.3
    ∙ sym (call_of x.elab.table x.clocks.items c.args.row.0 c.args.call.0 c.in_ok-row.row.now s
    (held c.deref.result.now _ _ _ (c.deref.ensures.value ∙ ap rows same) is.3.0 is.1)
    (held c.deref-2.result.now _ _ _ (c.deref-2.ensures.value ∙ ap specializations same)
    of_row.3.0 of_row.1))
