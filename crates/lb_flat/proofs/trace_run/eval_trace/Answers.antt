-- What is prepared and recorded comes from the program and the traces that are given.
use Rattle.lb_flat.proofs.Words.{◌<◌, length, sym, subst, Recording}
use Rattle.lb_flat.proofs.trace_run.eval_trace.Goals as goal

pub eval_prepared-requires-clause-trace : goal.eval_prepared-requires-clause-trace
eval_prepared-requires-clause-trace c =
    subst (λ (r : Recording). c.args.k < length r.traces) (sym c.in_ok-recorded.ensures)
    c.requires
