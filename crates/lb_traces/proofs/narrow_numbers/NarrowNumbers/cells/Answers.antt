-- The cells lie within all cells.
use Rattle.std.proofs.Common.{arith, ◌≡◌, ◌+◌, ◌-◌, ◌≤◌, sym, subst, length, take, drop}
use Rattle.std.proofs.Common.{length-drop}
use Rattle.std.proofs.lemmas.List.{length-take-le}
use Rattle.lb_traces.specs.Narrow.{Integers, AreCells}
use Rattle.lb_traces.proofs.NarrowLists.{cells-are, as-many}
use Rattle.lb_traces.proofs.narrow_numbers.NarrowNumbers.cells.Goals as goal

pub overflow_add-result : goal.overflow_add-result
overflow_add-result c =
    omega (arith, c.requires, c.self.invariant.few, as-many _ _ _ c.self.view_is)

pub offset_bounds-as_slice-start : goal.offset_bounds-as_slice-start
offset_bounds-as_slice-start c =
    omega (arith, c.requires, c.self.invariant.few, as-many _ _ _ c.self.view_is)

pub slice_bounds-result-end : goal.slice_bounds-result-end
slice_bounds-result-end c = omega (arith, c.requires, as-many _ _ _ c.self.view_is)

pub returns-clause-cells : goal.returns-clause-cells
returns-clause-cells c =
    let cells = c.self.inside.cells.items in
    let start = c.args.start in
    let fits : start + c.args.count ≤ length cells =
    omega (arith, c.requires, as-many _ _ _ c.self.view_is) in
    let n : start + c.args.count - start ≡ c.args.count = omega arith in
    subst
    (λ xs. AreCells (take (start + c.args.count - start) (drop start xs)) c.args.self.now.items start)
    (sym c.as_slice.ensures.value)
    (subst (λ m. AreCells (take m (drop start cells)) c.args.self.now.items start) (sym n)
    (subst (λ (r : Integers). AreCells (take c.args.count (drop start cells)) r.items start)
    c.self.view_is (cells-are _ _ _ _ _ c.self.invariant fits)))

pub returns-clause-count : goal.returns-clause-count
returns-clause-count c =
    let cells = c.self.inside.cells.items in
    let start = c.args.start in
    let fits : start + c.args.count ≤ length cells =
    omega (arith, c.requires, as-many _ _ _ c.self.view_is) in
    let n : start + c.args.count - start ≡ c.args.count = omega arith in
    subst (λ xs. length (take (start + c.args.count - start) (drop start xs)) ≡ c.args.count)
    (sym c.as_slice.ensures.value)
    (subst (λ m. length (take m (drop start cells)) ≡ c.args.count) (sym n)
    (length-take-le c.args.count (drop start cells) (omega (arith, fits, length-drop start cells))))
