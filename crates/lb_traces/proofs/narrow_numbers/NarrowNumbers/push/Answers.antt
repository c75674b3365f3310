-- A cell tells the integer, or it stands elsewhere.
use Rattle.std.proofs.Common.{arith, rules, ◌≡◌, ap, length, refl, subst, w32}
use Rattle.std.proofs.lemmas.Int.{ints, to_z-of_z}
use mir.Val.{SFits}
use Rattle.lb_traces.specs.Narrow.{Integers, IsTold}
use Rattle.lb_traces.proofs.NarrowLists.{IsNarrow-append, as-many}
use Rattle.lb_traces.proofs.PushedLists.{cell-pushed, other-pushed, other-fits, told-low, told-high}
use Rattle.lb_traces.proofs.narrow_numbers.NarrowNumbers.push.Goals as goal

pub invariant_of-self : goal.invariant_of-self
invariant_of-self c =
    rw c.push_reserved.ensures.items
    (IsNarrow-append c.self.inside.cells.items _ c.self.inside.places.items
    c.self.inside.values.items c.self.invariant
    (omega (arith, c.requires.few, as-many _ _ _ c.self.view_is)))

pub returns-then-is_told-clause-items : goal.returns-then-is_told-clause-items
returns-then-is_told-clause-items c =
    let told : IsTold c.args.number =
    subst IsTold (to_z-of_z w32 c.args.number c.ranges.number)
    (c.is_told.ensures c.if-is_told.true) in
    let low = told-low c.args.number told in
    let high = told-high c.args.number told in
    rw c.push_reserved.ensures.items
    (cell-pushed c.self.inside.cells.items c.self.inside.places.items c.self.inside.values.items
    c.args.self.now.items c.self.invariant (ap (λ (r : Integers). r.items) c.self.view_is) _
    c.args.number
    (omega (arith, ints, low, high)) told)

pub overflow_cast-len : goal.overflow_cast-len
overflow_cast-len c =
    let cells : c.len.result ≡ length c.self.inside.cells.items = search rules in
    omega (arith, cells, c.requires.few, as-many _ _ _ c.self.view_is)

pub invariant_of-self-else-is_told : goal.invariant_of-self-else-is_told
invariant_of-self-else-is_told c =
    let cells : c.len.result ≡ length c.self.inside.cells.items = search rules in
    rw (
      c.push_reserved-else-is_told-3.ensures.items,
      c.push_reserved-else-is_told.ensures.items,
      c.push_reserved-else-is_told-2.ensures.items,
    )
    (other-fits c.self.inside.cells.items c.self.inside.places.items c.self.inside.values.items
    c.args.self.now.items c.self.invariant (ap (λ (r : Integers). r.items) c.self.view_is) _ _ _
    refl cells
    (omega (arith, c.requires.few, as-many _ _ _ c.self.view_is)))

pub returns-else-is_told-clause-items : goal.returns-else-is_told-clause-items
returns-else-is_told-clause-items c =
    let cells : c.len.result ≡ length c.self.inside.cells.items = search rules in
    let fits : SFits w32 c.args.number = c.ranges.number in
    rw (
      c.push_reserved-else-is_told-3.ensures.items,
      c.push_reserved-else-is_told.ensures.items,
      c.push_reserved-else-is_told-2.ensures.items,
    )
    (other-pushed c.self.inside.cells.items c.self.inside.places.items c.self.inside.values.items
    c.args.self.now.items c.self.invariant (ap (λ (r : Integers). r.items) c.self.view_is) _ _ _
    c.args.number refl
    cells (omega (arith, ints, fits)))
