-- The last place is the number of all rows.
use Rattle.std.proofs.Common.{arith, ◌≡◌, ◌+◌, ◌-◌, get_or, length, sym, subst, ◌∙◌, ap}
use Rattle.lb_traces.specs.Traces.{Recording, IsRecording, instants_of}
use Rattle.lb_traces.proofs.Ledgers.{read_last}
use Rattle.lb_traces.proofs.StoredRows.{instants-stored}
use Rattle.lb_traces.proofs.Storing.{few_instants}
use Rattle.lb_traces.proofs.traces.TraceSet.instants.Goals as goal

pub returns-clause-count : goal.returns-clause-count
returns-clause-count c =
    let count : c.len.result ≡ length c.self.inside.names = c.len.ensures.count in
    let at : c.len.result ≡ (c.len.result + 1) - 1 = omega arith in
    read_last _ _ _
    c.self.invariant.parts.rows.ledger (omega (arith, c.self.invariant.parts.rows.paired))
    (c.index.ensures ∙ ap (λ i. get_or c.self.inside.row_ends.items i c.index.result.now) at)
    ∙ sym (instants-stored _ _ _ _ c.self.invariant.parts.rows)
    ∙ ap (λ (r : Recording). instants_of r.traces) c.self.view_is

pub returns-clause-limit : goal.returns-clause-limit
returns-clause-limit c =
    rw (returns-clause-count c) (few_instants c.args.self.now
    (subst IsRecording c.self.view_is c.self.invariant.parts.lawful))
