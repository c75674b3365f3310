-- The called row, its instance, and its node, one after the other.
use Rattle.{lb_check.specs.TermClocks.declared_in, lb_expand.proofs.Words.{None, Option, Reached}}
use Rattle.lb_expand.proofs.Words.{ResolvedNode, Some, Table, ap, ap₂, refl, slice_get, sym, ℕ}
use Rattle.lb_expand.{proofs.Words.{◌>>=◌, ◌∙◌, ◌≡◌}, specs.RowFrames.{Read, input_id, read_child}}
use Rattle.lb_expand.specs.{RowFrames.{read_id, read_of}, TableClocks.node_at}
use Rattle.lb_static.proofs.Lookups.{held, past}
use Rattle.lb_static.specs.declared.table.Instance as row
use Rattle.lb_expand.proofs.row_frame.RowFrame.input_id.Goals as goal

module _ (z : Read) (call index variable m : ℕ) (child : read_child z call index ≡ Some m) where
  no_row : slice_get z.checked.elab.table.instances.items m ≡ None →
      input_id z call index variable ≡ None
  no_row none = rw (child, none) refl

  found_at : (i : row.Instance) → slice_get z.checked.elab.table.instances.items m ≡ Some i →
      input_id z call index variable
      ≡ (node_at z.checked.elab.reached z.checked.elab.table i >>= λ (n : ResolvedNode).
      read_id z m (declared_in n (record { 0 = variable })))
  found_at i is = rw (child, is) refl

pub returns-in_err-row : goal.returns-in_err-row
returns-in_err-row c =
    let same = c.table.ensures.value ∙ ap (λ e. e.table) c.elab-elab.ensures.value in
    c.from_residual-in_err-row.ensures
    ∙ sym (no_row (read_of c.args.self.now) c.args.call c.args.index c.args.variable _
    (sym c.in_ok-child.ensures) (past c.deref.result.now _ _
    (c.deref.ensures.value ∙ ap (λ (t : Table). t.instances.items) same)
    c.in_err-row.ensures.lookup.3))

-- what the node of row `m` gives, where the code has read the row and the node
node_read :
    (z : Read) (call index variable m : ℕ) → read_child z call index ≡ Some m →
    (r : Reached) (t : Table) (i : row.Instance) (node : Option ResolvedNode) →
    node ≡ node_at r t i → r ≡ z.checked.elab.reached → t ≡ z.checked.elab.table →
    slice_get z.checked.elab.table.instances.items m ≡ Some i →
    (node >>= λ (n : ResolvedNode). read_id z m (declared_in n (record { 0 = variable })))
    ≡ input_id z call index variable
node_read z call index variable m child r t i node e er et is =
    ap (λ o. o >>= λ (n : ResolvedNode). read_id z m (declared_in n (record { 0 = variable })))
    (e ∙ ap₂ (λ r t. node_at r t i) er et)
    ∙ sym (found_at z call index variable m child i is)

pub returns-in_err-node : goal.returns-in_err-node
returns-in_err-node c =
    let e = c.elab-elab.ensures.value in
    let found = c.in_ok-row.ensures.lookup in
    c.from_residual-in_err-node.ensures
    ∙ node_read (read_of c.args.self.now) c.args.call c.args.index c.args.variable _
    (sym c.in_ok-child.ensures) _ _ c.in_ok-row.row.now _ c.in_err-node.ensures
    (c.reached.ensures.value ∙ ap (λ e. e.reached) e)
    (c.table-2.ensures.value ∙ ap (λ e. e.table) e)
    (held c.deref.result.now _ _ _ (c.deref.ensures.value
    ∙ ap (λ (t : Table). t.instances.items) (c.table.ensures.value ∙ ap (λ e. e.table) e))
    found.3.0 found.1)

pub returns : goal.returns
returns c =
    let z = read_of c.args.self.now in
    let m = c.in_ok-child.child.0 in
    let e = c.elab-elab.ensures.value in
    let found = c.in_ok-row.ensures.lookup in
    c.id.ensures ∙ ap (read_id z m) c.declared_clock.ensures.mirror
    ∙ node_read z c.args.call c.args.index c.args.variable m
    (sym c.in_ok-child.ensures) _ _ c.in_ok-row.row.now _ c.in_ok-node.ensures
    (c.reached.ensures.value ∙ ap (λ e. e.reached) e)
    (c.table-2.ensures.value ∙ ap (λ e. e.table) e)
    (held c.deref.result.now _ _ _ (c.deref.ensures.value
    ∙ ap (λ (t : Table). t.instances.items) (c.table.ensures.value ∙ ap (λ e. e.table) e))
    found.3.0 found.1)
