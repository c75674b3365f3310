-- The cells of the integers stand behind the others.
use Rattle.std.proofs.Common.{arith, rules, ◌≡◌, ◌≤◌, ◌++◌, ap, length, is_ok, true, take}
use Rattle.lb_traces.specs.Narrow.{Integers}
use Rattle.lb_traces.proofs.NarrowLists.{IsNarrow-append, as-many}
use Rattle.lb_traces.proofs.PushedLists.{cells-pushed, front-is}
use Rattle.lb_traces.proofs.narrow_numbers.NarrowNumbers.push_cells.Goals as goal

pub invariant_of-self : goal.invariant_of-self
invariant_of-self c =
    let numbers = c.args.numbers.now in
    let array = c.cells_of-cells.result in
    let cells = c.self.inside.cells.items in
    let few : length numbers ≤ length array = first_of (
      omega (arith, c.requires.count),
      search rules,
      grind (arith, c.requires.count),
    ) in
    let part : take (length numbers) array ≡ numbers =
    front-is array numbers few c.cells_of-cells.ensures in
    let ok : is_ok c.extend_from_slice.result ≡ true =
    c.extend_from_slice.ensures.succeeds
    (omega (arith, c.requires.room, ap (λ (r : Integers). r.room) c.self.view_is, ap length part)) in
    let items : c.extend_from_slice.new.self.items ≡ cells ++ take (length numbers) array =
    rw ok at c.extend_from_slice.ensures.items in
    rw items
    (IsNarrow-append cells (take (length numbers) array) c.self.inside.places.items
    c.self.inside.values.items c.self.invariant
    (omega (arith, c.requires.few, ap length part, as-many _ _ _ c.self.view_is)))

pub returns-clause-items : goal.returns-clause-items
returns-clause-items c =
    let numbers = c.args.numbers.now in
    let array = c.cells_of-cells.result in
    let cells = c.self.inside.cells.items in
    let few : length numbers ≤ length array = first_of (
      omega (arith, c.requires.count),
      search rules,
      grind (arith, c.requires.count),
    ) in
    let part : take (length numbers) array ≡ numbers =
    front-is array numbers few c.cells_of-cells.ensures in
    let ok : is_ok c.extend_from_slice.result ≡ true =
    c.extend_from_slice.ensures.succeeds
    (omega (arith, c.requires.room, ap (λ (r : Integers). r.room) c.self.view_is, ap length part)) in
    let items : c.extend_from_slice.new.self.items ≡ cells ++ take (length numbers) array =
    rw ok at c.extend_from_slice.ensures.items in
    rw items
    (cells-pushed c.self.inside.cells.items c.self.inside.places.items c.self.inside.values.items
    c.args.self.now.items c.self.invariant (ap (λ (r : Integers). r.items) c.self.view_is)
    (take (length numbers) array) numbers part c.requires.told)
