-- There are as many pieces as places but the first.
use Rattle.std.proofs.Common.{arith}
use Rattle.std.specs.List.{slice_range}
use Rattle.std.specs.Prelude.{string_bytes}
use Rattle.lb_traces.proofs.Ledgers.{length-pieces}
use Rattle.lb_traces.proofs.names.Names.len.Goals as goal

pub returns-clause-count : goal.returns-clause-count
returns-clause-count c =
    let pieces : _ = length-pieces (slice_range (string_bytes c.self.inside.text))
    c.self.inside.ends.items in
    rw (← c.self.view_is) (omega (arith, pieces, c.len.ensures))

pub returns-clause-limit : goal.returns-clause-limit
returns-clause-limit c = omega (arith, c.self.invariant.count, c.len.ensures)
