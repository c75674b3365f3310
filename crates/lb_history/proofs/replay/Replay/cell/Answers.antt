-- The cell of the row is the cell of the history.
use Rattle.std.proofs.Common.{◌<◌, ◌≤◌, length, ap, ◌∙◌, arith}
use Rattle.std.proofs.lemmas.List.{length-map}
use Rattle.lb_flat.specs.Inputs.{inputs_of, scalars_in}
use Rattle.lb_flat.specs.Programs.{program_of}
use Rattle.lb_traces.specs.Traces.{trace_at}
use Rattle.lb_flat.specs.Values.{cell_of}
use Rattle.lb_history.proofs.Replays.{program_ready, cell_there, cell_absent}
use Rattle.lb_history.proofs.Runs.{row_shows}
use Rattle.lb_history.proofs.replay.Replay.cell.Goals as goal

pub returns-then-place-len-clause-history : goal.returns-then-place-len-clause-history
returns-then-place-len-clause-history c = λ t is P flat same H solves e at.
    let r = c.args.self.now in
    let p = r.program.now in
    let X = inputs_of r.set.now r.trace in
    let rows = (trace_at r.set.now.traces r.trace).1 in
    let long = length-map rows (scalars_in r.set.now.signature) in
    let lt : t < length X = omega (arith, is, r.within, r.all_instants, long) in
    let within : c.args.element.0 < length r.row.items =
    omega (arith, c.if-place-len.true, c.len.ensures) in
    ap cell_of c.index.ensures
    ∙ cell_there p X r.in_order t r.next r.equations.items r.row.items r.replayed is
    c.args.element.0 _ within
    ∙ row_shows P (program_of p) flat (program_ready p X r.in_order) X H solves t
    c.args.element.0 e lt at

pub returns-else-place-len-clause-history : goal.returns-else-place-len-clause-history
returns-else-place-len-clause-history c = λ t is P flat same H solves e at.
    let r = c.args.self.now in
    let p = r.program.now in
    let X = inputs_of r.set.now r.trace in
    let rows = (trace_at r.set.now.traces r.trace).1 in
    let long = length-map rows (scalars_in r.set.now.signature) in
    let lt : t < length X = omega (arith, is, r.within, r.all_instants, long) in
    let past : length r.row.items ≤ c.args.element.0 =
    omega (arith, c.if-place-len.false, c.len.ensures) in
    cell_absent p X r.in_order t r.next r.equations.items r.row.items r.replayed is
    c.args.element.0 past
    ∙ row_shows P (program_of p) flat (program_ready p X r.in_order) X H solves t
    c.args.element.0 e lt at
