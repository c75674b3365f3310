-- Each pass adds one row, or finds too many elements; and what is read of all rows.
use Rattle.lb_expand.proofs.Words.{◌≡◌, ◌+◌, ◌-◌, ◌<◌, ◌≤◌, [], ◌∷◌, ◌++◌, take, get_or, length}
use Rattle.lb_expand.proofs.Words.{flat_map, ap, ◌∙◌, arith, subst, slice_get, range_with_len}
use Rattle.lb_expand.proofs.Words.{err_from_is_err_and, listed, sum_of, widths_in, Result, Err}
use Rattle.lb_expand.specs.declared.layout.LayoutError.TheVariants.{Large}
use Rattle.lb_expand.proofs.numbering.StoredLayouts.{row_stored, rows_past, all_stored, starts}
use Rattle.lb_expand.proofs.numbering.StoredLayouts.{read_numbers}
use Rattle.lb_expand.proofs.layout.Layout.new.Goals as goal

-- equal errors are equal in results of another type
same_error :
    {A B E : Type 0} (x y : E) → ◌≡◌ {A = Result A E} (Err x) (Err y) →
    ◌≡◌ {A = Result B E} (Err x) (Err y)
same_error x y e = let same : x ≡ y = cc in ap (λ z. Err z) same

pub returns-in_err-count-clause-large : goal.returns-in_err-count-clause-large
returns-in_err-count-clause-large c =
    let p = err_from_is_err_and c.from_residual-in_err-count.result
    c.from_residual-in_err-count.ensures.1 in
    let l = c.loop-row in
    let f = widths_in c.args.reached.now c.args.table.now in
    rw (p.1, p.2) (λ e.
    subst (λ rows. 65536 < sum_of (flat_map f rows)) c.deref-row-items.ensures.value
    (rows_past f c.deref-row-items.result.now l.row-index _ l.variables.items l.starts.items l.count
    c.loop-row-test.true l.invariant
    (c.in_err-count.ensures.large (same_error c.in_err-count.field-0.0 Large e))))

pub loop-row-preserved : goal.loop-row-preserved
loop-row-preserved c =
    let l = c.loop-row in
    let f = widths_in c.args.reached.now c.args.table.now in
    let long : c.len.result ≡ length c.add_row.new.starts.items = omega (arith, c.len.ensures) in
    row_stored f c.deref-row-items.result.now l.row-index _ l.variables.items l.starts.items
    c.add_row.new.starts.items c.push-in-loop-row.new.self.items l.count c.in_ok-count.count
    c.loop-row-test.true l.invariant c.in_ok-count.ensures.added
    (c.in_ok-push-3.ensures.items ∙ ap (λ n. l.variables.items ++ (n - 1) ∷ []) long)

pub returns-clause-numbers : goal.returns-clause-numbers
returns-clause-numbers c row x =
    let l = c.loop-row in
    let f = widths_in c.args.reached.now c.args.table.now in
    let items = c.deref-row-items.result.now in
    read_numbers f items l.variables.items l.starts.items l.count
    (all_stored f items l.row-index l.variables.items l.starts.items l.count c.loop-row-test.false
    l.invariant) row x
    ∙ ap (λ rows. range_with_len
    (sum_of (flat_map f (take row rows)) + sum_of (take x (listed f (slice_get rows row))))
    (get_or (listed f (slice_get rows row)) x 0)) c.deref-row-items.ensures.value

pub returns-clause-variables : goal.returns-clause-variables
returns-clause-variables c row le =
    let l = c.loop-row in
    let f = widths_in c.args.reached.now c.args.table.now in
    let items = c.deref-row-items.result.now in
    subst (λ rows. row ≤ length rows →
    get_or l.variables.items row 0 ≡ length (flat_map f (take row rows)))
    c.deref-row-items.ensures.value
    (λ within. starts f items l.variables.items l.starts.items l.count
    (all_stored f items l.row-index l.variables.items l.starts.items l.count c.loop-row-test.false
    l.invariant) row within) le

pub returns-clause-count : goal.returns-clause-count
returns-clause-count c =
    let l = c.loop-row in
    let f = widths_in c.args.reached.now c.args.table.now in
    let items = c.deref-row-items.result.now in
    (all_stored f items l.row-index l.variables.items l.starts.items l.count c.loop-row-test.false
    l.invariant).count_is
    ∙ ap (λ rows. sum_of (flat_map f rows)) c.deref-row-items.ensures.value
