-- The name of the last trace is that of the trace at the last place.
use Rattle.std.proofs.Common.{arith, ◌<◌, length, sym, ap, ◌∙◌}
use Rattle.std.specs.Str.{bytes_eq}
use Rattle.lb_trace.proofs.Lasts.{is_last_at}
use Rattle.lb_trace.proofs.recorder.is_last.Goals as goal

pub returns-then-count-gt0 : goal.returns-then-count-gt0
returns-then-count-gt0 c =
    let some : 0 < length c.args.set.now.traces =
    omega (arith, c.len-count.ensures.count, c.if-count-gt0.true) in
    c.eq.ensures ∙ ap (bytes_eq c.args.name.now) (c.as_bytes.ensures.value ∙ c.name.ensures)
    ∙ sym (is_last_at _ _ _ some (omega (arith, c.len-count.ensures.count)))
