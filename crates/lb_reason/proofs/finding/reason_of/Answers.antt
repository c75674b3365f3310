use Rattle.std.proofs.Common.{◌<◌, ◌≤◌, arith, length, sym}
use Rattle.lb_flat.specs.Programs.{program_of}
use Rattle.lb_traces.specs.Traces.{trace_at}
use Rattle.lb_flat.proofs.solutions.StandingRuns.{ordered_ready}
use Rattle.lb_reason.proofs.Steps.{none_first, none_past, steps_are}
use Rattle.lb_reason.proofs.finding.reason_of.Goals as goal

pub returns-then-t-length-clause-steps : goal.returns-then-t-length-clause-steps
returns-then-t-length-clause-steps c =
    let past : length (trace_at c.args.set.now.traces c.args.k).1 ≤ c.in-Some.t =
    omega (arith, c.if-t-length.true, c.length.ensures.instants) in
    none_past (program_of c.args.ordered.now.program) c.args.set.now c.args.k c.args.verdict
    c.requires.verdict _ c.in-Some.t c.without_steps-then-t-length.ensures.steps
    (sym c.in-Some.ensures) past

pub returns-in_default-first_element-clause-steps :
    goal.returns-in_default-first_element-clause-steps
returns-in_default-first_element-clause-steps c =
    let m = c.in_ok-moment.ensures in
    none_first (program_of c.args.ordered.now.program) c.args.set.now c.args.k c.args.verdict
    c.requires.verdict _ c.in-Some.t c.in_ok-moment.moment
    c.without_steps-in_default-first_element.ensures.steps m.program m.inputs m.instant
    (sym c.in-Some.ensures) (sym c.in_default-first_element.ensures)

pub returns-clause-steps : goal.returns-clause-steps
returns-clause-steps c =
    let m = c.in_ok-moment.ensures in
    let within : c.in-Some.t < length (trace_at c.args.set.now.traces c.args.k).1 =
    omega (arith, c.if-t-length.false, c.length.ensures.instants) in
    steps_are (program_of c.args.ordered.now.program) c.args.set.now c.args.k c.args.verdict
    c.requires.verdict c.in-Some.t c.in_ok-moment.moment c.in-Some-first_element.first.0
    c.in_ok-steps.steps.items (ordered_ready c.args.ordered.now) within m.program m.inputs
    m.instant (sym c.in-Some.ensures) (sym c.in-Some-first_element.ensures)
    c.in_ok-steps.ensures
