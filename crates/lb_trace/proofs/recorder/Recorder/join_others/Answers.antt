-- The other rows of a trace are added at once.
use Rattle.std.proofs.Common.{◌+◌, ◌-◌, ◌<◌, ◌≤◌, ap, ◌∙◌, arith, subst, sym, length}
use Rattle.lb_traces.specs.Traces.{HasRoomFor, Recording, last_rows, rows_from, trace_at}
use Rattle.lb_trace.proofs.JoinedTraces.{instants-extended, others-counted}
use Rattle.lb_trace.proofs.KnownNames.{knows-rows}
use Rattle.lb_trace.proofs.Soundness.{some_last}
use Rattle.lb_trace.proofs.recorder.Recorder.join_others.Goals as goal

pub has_room_for-requires-clause-started : goal.has_room_for-requires-clause-started
has_room_for-requires-clause-started c =
    subst (λ (r : Recording). 0 < length r.traces) (sym c.set.ensures)
    (some_last (trace_at c.args.set.now.traces c.args.k).0 c.args.self.now.rows.traces
    c.requires.last)

pub extend-requires-clause-started : goal.extend-requires-clause-started
extend-requires-clause-started c =
    some_last (trace_at c.args.set.now.traces c.args.k).0 c.args.self.now.rows.traces
    c.requires.last

pub extend-requires-clause-from : goal.extend-requires-clause-from
extend-requires-clause-from c =
    omega (arith, c.length-more.ensures.instants, c.length-more.ensures.started)

pub extend-requires-clause-instants : goal.extend-requires-clause-instants
extend-requires-clause-instants c =
    let room = c.has_room_for.ensures.instants c.if-not-has_room_for.false in
    let more = c.length-more.result - 1 in
    let fits = subst (λ (r : Recording). length (last_rows r.traces) + more ≤ 1000000)
    c.set.ensures room in
    omega (
      arith,
      fits,
      others-counted (trace_at c.args.set.now.traces c.args.k).1,
      c.length-more.ensures.instants,
    )

pub extend-requires-clause-room : goal.extend-requires-clause-room
extend-requires-clause-room c =
    let room = c.has_room_for.ensures.cells c.if-not-has_room_for.false in
    let more = c.length-more.result - 1 in
    let fits = subst (λ (r : Recording). HasRoomFor r more) c.set.ensures room in
    subst (λ n. HasRoomFor c.args.self.now.rows n)
    (sym (others-counted (trace_at c.args.set.now.traces c.args.k).1
    ∙ ap (λ n. n - 1) (sym c.length-more.ensures.instants))) fits

pub returns-clause-instants : goal.returns-clause-instants
returns-clause-instants c =
    instants-extended (trace_at c.args.set.now.traces c.args.k).0 c.args.self.now.rows
    c.extend.new.self (rows_from c.args.set.now.traces c.args.k 1) c.requires.last
    c.in-Ok.ensures.ok

pub returns-clause-names : goal.returns-clause-names
returns-clause-names c =
    knows-rows _ _ _ _ c.in-Ok.ensures.ok c.requires.names

pub returns-clause-signature : goal.returns-clause-signature
returns-clause-signature c = ap (λ (r : Recording). r.signature) c.in-Ok.ensures.ok
