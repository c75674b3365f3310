-- The rows of the last trace are those of the trace at the last place.
use Rattle.std.proofs.Common.{arith, ◌-◌, length, nat_lt, sym, ap, ◌∙◌}
use Rattle.lb_trace.proofs.Lasts.{last_rows_at}
use Rattle.lb_trace.proofs.recorder.has_instants.Goals as goal

pub returns : goal.returns
returns c =
    ap (λ n. nat_lt n 1000000)
    (c.length.ensures.instants
    ∙ sym (ap length (last_rows_at c.args.set.now.traces (c.len.result - 1) c.requires
    (omega (arith, c.len.ensures.count)))))
