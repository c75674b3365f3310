use Rattle.std.proofs.Common.{arith, rules, ◌≡◌, length}
use Rattle.lb_traces.proofs.NarrowLists.{places-few, as-many}
use Rattle.lb_traces.proofs.narrow_numbers.NarrowNumbers.bytes.Goals as goal

pub overflow_mul-result-2 : goal.overflow_mul-result-2
overflow_mul-result-2 c =
    let places : c.len-2.result ≡ length c.self.inside.places.items = search rules in
    omega (arith, places, c.self.invariant.few, places-few _ _ _ c.self.invariant)

pub overflow_add-result : goal.overflow_add-result
overflow_add-result c =
    let cells : c.len.result ≡ length c.self.inside.cells.items = search rules in
    let places : c.len-2.result ≡ length c.self.inside.places.items = search rules in
    omega (arith, cells, places, c.self.invariant.few, places-few _ _ _ c.self.invariant)

pub returns : goal.returns
returns c =
    let cells : c.len.result ≡ length c.self.inside.cells.items = search rules in
    let places : c.len-2.result ≡ length c.self.inside.places.items = search rules in
    omega (arith, cells, places, as-many _ _ _ c.self.view_is, places-few _ _ _ c.self.invariant)
