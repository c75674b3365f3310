-- The name of the last trace is that of the trace at the last place.
use Rattle.std.proofs.Common.{arith, ◌<◌, length, ap, ◌∙◌}
use Rattle.lb_trace.specs.Mirrors.{is_below}
use Rattle.lb_trace.proofs.KnownNames.{rises-none, rises_at}
use Rattle.lb_trace.proofs.seen_names.rises_to.Goals as goal

pub returns-then-count-eq0 : goal.returns-then-count-eq0
returns-then-count-eq0 c =
    rises-none c.args.traces.now.traces c.args.name.now
    (omega (arith, c.len-count.ensures.count, c.if-count-eq0.true))

pub returns : goal.returns
returns c =
    let some : 0 < length c.args.traces.now.traces =
    omega (arith, c.len-count.ensures.count, c.if-count-eq0.false) in
    c.is_below.ensures ∙ ap (λ last. is_below last c.args.name.now) c.name.ensures
    ∙ rises_at _ _ _ some (omega (arith, c.len-count.ensures.count))
