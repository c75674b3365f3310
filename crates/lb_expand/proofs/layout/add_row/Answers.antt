-- A row has the widths of the variables of its node; a row without a node has none.
use Rattle.lb_expand.proofs.Words.{Declared, IfOk, List, [], append-nil, arith, declared_width, map}
use Rattle.lb_expand.proofs.Words.{subst, sum_of, sym, ℕ, ℤ, ◌+◌, ◌<◌, ◌≡◌, ◌≤◌}
use Rattle.lb_expand.proofs.numbering.RowVariables.{of_node, unspecialized, without_node}
use Rattle.{lb_expand.specs.Rows.AreAdded, lb_static.proofs.Lookups.{held, past}}
use Rattle.lb_expand.proofs.layout.add_row.Goals as goal

abbrev widths : List ℤ → List Declared → List ℕ
widths statics vs = map (declared_width statics) vs

nothing_added : (ws : List ℕ) (last : ℕ) (before : List ℕ) → last ≤ 65536 → [] ≡ ws →
    AreAdded ws last before before last
nothing_added ws last before few none =
    subst (λ ws. AreAdded ws last before before last) none
    (record { starts = sym (append-nil before); next_is = omega arith; few = few })

pub returns-in_default-clause-added : goal.returns-in_default-clause-added
returns-in_default-clause-added c =
    nothing_added _ _ _ c.requires
    (sym (unspecialized widths c.args.reached.now c.args.table.now c.args.row.now
    (past c.deref.result.now _ _ c.deref.ensures.value c.in_default.ensures.lookup.3)))

pub returns-in-None-clause-added : goal.returns-in-None-clause-added
returns-in-None-clause-added c =
    let there = c.in-Some.ensures.lookup in
    nothing_added _ _ _ c.requires
    (sym (without_node widths c.args.reached.now c.args.table.now c.args.row.now _
    (held c.deref.result.now _ _ c.in-Some.specialization.now c.deref.ensures.value there.3.0
    there.1) (past c.deref-2.result.now _ _ c.deref-2.ensures.value c.in-None.ensures.lookup.3)))

pub returns-in-Some-get : goal.returns-in-Some-get
returns-in-Some-get c =
    let there = c.in-Some.ensures.lookup in
    let at = c.in-Some-get.ensures.lookup in
    let same = of_node widths c.args.reached.now c.args.table.now c.args.row.now _ _ _ _
    (held c.deref.result.now _ _ c.in-Some.specialization.now c.deref.ensures.value there.3.0
    there.1)
    (held c.deref-2.result.now _ _ c.in-Some-get.node.now c.deref-2.ensures.value at.3.0 at.1)
    c.deref-in-Some-get.ensures.value c.deref-in-Some-get-2.ensures.value in
    record {
      added =
          subst (λ ws. IfOk c.add_variables.result (AreAdded ws c.args.last
          c.args.starts.now.items c.add_variables.new.starts.items)) same
          c.add_variables.ensures.added;
      large = λ e. subst (λ ws. 65536 < c.args.last + sum_of ws) same
          (c.add_variables.ensures.large e);
    }
