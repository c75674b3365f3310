-- What is listed of the variables of a row: nothing, where the row has no specialization or node.
use Rattle.lb_expand.proofs.Words.{Declared, List, None, Reached, ResolvedNode, Some, Table, []}
use Rattle.lb_expand.proofs.Words.{Specialization, ap₂, listed, refl, slice_get, sym, ℤ, ◌∙◌, ◌≡◌}
use Rattle.lb_static.specs.declared.table.Instance as row

module _ {A : Type 0} (part : List ℤ → List Declared → List A) (r : Reached) (t : Table)
    (i : row.Instance) where
  -- what `part` lists of the variables of row `i`, under its static values
  abbrev in_row : List A
  in_row =
      listed (λ (s : Specialization). listed (λ (n : ResolvedNode).
      part s.statics.items n.variables.items) (slice_get r.nodes.items s.node.0))
      (slice_get t.specializations.items i.specialization.0)

  pub unspecialized : slice_get t.specializations.items i.specialization.0 ≡ None → in_row ≡ []
  unspecialized none = rw none refl

  pub without_node :
      (s : Specialization) → slice_get t.specializations.items i.specialization.0 ≡ Some s →
      slice_get r.nodes.items s.node.0 ≡ None → in_row ≡ []
  without_node s is none = rw (is, none) refl

  pub of_node :
      (s : Specialization) (n : ResolvedNode) (values : List ℤ) (vs : List Declared) →
      slice_get t.specializations.items i.specialization.0 ≡ Some s →
      slice_get r.nodes.items s.node.0 ≡ Some n → values ≡ s.statics.items →
      vs ≡ n.variables.items → part values vs ≡ in_row
  of_node s n values vs is node valued are =
      let found : in_row ≡ part s.statics.items n.variables.items = rw (is, node) refl in
      ap₂ part valued are ∙ sym found
