use Rattle.std.proofs.Common.{arith, rules, ◌≡◌, length}
use Rattle.lb_traces.proofs.NarrowLists.{as-many}
use Rattle.lb_traces.proofs.narrow_numbers.NarrowNumbers.len.Goals as goal

pub returns-clause-count : goal.returns-clause-count
returns-clause-count c =
    let cells : c.len.result ≡ length c.self.inside.cells.items = search rules in
    omega (arith, cells, as-many _ _ _ c.self.view_is)

pub returns-clause-limit : goal.returns-clause-limit
returns-clause-limit c =
    let cells : c.len.result ≡ length c.self.inside.cells.items = search rules in
    omega (arith, cells, c.self.invariant.few)
