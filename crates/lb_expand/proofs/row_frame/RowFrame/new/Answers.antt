-- The row, its specialization, and its node, one after the other.
use Rattle.{lb_check.specs.declared.checked.Checking.Checking, lb_expand.proofs.Words.{List, None}}
use Rattle.lb_expand.proofs.Words.{Reached, ResolvedNode, Some, Specialization, Table, ap, refl}
use Rattle.lb_expand.{proofs.Words.{slice_get, sym, ℕ, ◌>>=◌, ◌∙◌, ◌≡◌}, specs.RowFrames.found_row}
use Rattle.{lb_expand.specs.RowFrames.found_types, lb_static.proofs.Lookups.{held, past}}
use Rattle.lb_static.specs.declared.table.Instance as row
use Rattle.lb_expand.proofs.row_frame.RowFrame.new.Goals as goal

abbrev rows : Table → List row.Instance
rows t = t.instances.items

abbrev specializations : Table → List Specialization
specializations t = t.specializations.items

abbrev nodes : Reached → List ResolvedNode
nodes r = r.nodes.items

module _ (x : Checking) (j : ℕ) where
  no_row : slice_get x.elab.table.instances.items j ≡ None → found_row x j ≡ None
  no_row none = rw none refl

  no_specialization :
      (i : row.Instance) → slice_get x.elab.table.instances.items j ≡ Some i →
      slice_get x.elab.table.specializations.items i.specialization.0 ≡ None →
      found_row x j ≡ None
  no_specialization i is none = rw (is, none) refl

  no_node :
      (i : row.Instance) (s : Specialization) →
      slice_get x.elab.table.instances.items j ≡ Some i →
      slice_get x.elab.table.specializations.items i.specialization.0 ≡ Some s →
      slice_get x.elab.reached.nodes.items s.node.0 ≡ None → found_row x j ≡ None
  no_node i s is of_row none = rw (is, of_row, none) refl

  row_at :
      (i : row.Instance) (s : Specialization) (n : ResolvedNode) →
      slice_get x.elab.table.instances.items j ≡ Some i →
      slice_get x.elab.table.specializations.items i.specialization.0 ≡ Some s →
      slice_get x.elab.reached.nodes.items s.node.0 ≡ Some n → found_row x j ≡ Some (s, n)
  row_at i s n is of_row of_node = rw (is, of_row, of_node) refl

  types_at :
      (i : row.Instance) → slice_get x.elab.table.instances.items j ≡ Some i →
      found_types x j ≡ x.types >>= λ all. slice_get all.items i.specialization.0
  types_at i is = rw is refl

pub returns-in_err-instance : goal.returns-in_err-instance
returns-in_err-instance c =
    let same = c.table-table.ensures.value ∙ ap (λ e. e.table) c.elab-2.ensures.value in
    rw c.from_residual.ensures (no_row c.args.checked.now c.args.row.0
    (past c.deref.result.now _ _ (c.deref.ensures.value ∙ ap rows same)
    c.in_err-instance.ensures.lookup.3))

pub returns-in_err-specialization : goal.returns-in_err-specialization
returns-in_err-specialization c =
    let same = c.table-table.ensures.value ∙ ap (λ e. e.table) c.elab-2.ensures.value in
    let is = c.in_ok-instance.ensures.lookup in
    rw c.from_residual-in_err-specialization.ensures
    (no_specialization c.args.checked.now c.args.row.0 c.in_ok-instance.instance.now
    (held c.deref.result.now _ _ _ (c.deref.ensures.value ∙ ap rows same) is.3.0 is.1)
    (past c.deref-2.result.now _ _ (c.deref-2.ensures.value ∙ ap specializations same)
    c.in_err-specialization.ensures.lookup.3))

pub returns-in_err-node : goal.returns-in_err-node
returns-in_err-node c =
    let same = c.table-table.ensures.value ∙ ap (λ e. e.table) c.elab-2.ensures.value in
    let reached = c.reached-reached.ensures.value ∙ ap (λ e. e.reached) c.elab.ensures.value in
    let is = c.in_ok-instance.ensures.lookup in
    let of_row = c.in_ok-specialization.ensures.lookup in
    rw c.from_residual-in_err-node.ensures
    (no_node c.args.checked.now c.args.row.0 c.in_ok-instance.instance.now
    c.in_ok-specialization.specialization.now
    (held c.deref.result.now _ _ _ (c.deref.ensures.value ∙ ap rows same) is.3.0 is.1)
    (held c.deref-2.result.now _ _ _ (c.deref-2.ensures.value ∙ ap specializations same)
    of_row.3.0 of_row.1)
    (past c.deref-3.result.now _ _ (c.deref-3.ensures.value ∙ ap nodes reached)
    c.in_err-node.ensures.lookup.3))

pub returns : goal.returns
returns c =
    let x = c.args.checked.now in
    let i = c.in_ok-instance.instance.now in
    let same = c.table-table.ensures.value ∙ ap (λ e. e.table) c.elab-2.ensures.value in
    let reached = c.reached-reached.ensures.value ∙ ap (λ e. e.reached) c.elab.ensures.value in
    let at = c.in_ok-instance.ensures.lookup in
    let of_row = c.in_ok-specialization.ensures.lookup in
    let of_node = c.in_ok-node.ensures.lookup in
    let is = held c.deref.result.now (rows x.elab.table) c.args.row.0 i
    (c.deref.ensures.value ∙ ap rows same) at.3.0 at.1 in
    record {
      checked = refl;
      layout = refl;
      children = refl;
      clocks = refl;
      row = refl;
      found =
          row_at x c.args.row.0 i c.in_ok-specialization.specialization.now
          c.in_ok-node.node.now is
          (held c.deref-2.result.now _ _ _ (c.deref-2.ensures.value ∙ ap specializations same)
          of_row.3.0 of_row.1)
          (held c.deref-3.result.now _ _ _ (c.deref-3.ensures.value ∙ ap nodes reached)
          of_node.3.0 of_node.1);
      terms = c.term_clocks.ensures.value;
      types = c.term_types.ensures.value ∙ sym (types_at x c.args.row.0 i is);
    }
