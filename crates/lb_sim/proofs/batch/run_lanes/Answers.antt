-- Lanes take members that wait, and then run while the same lanes go on, until no lane is pending.
use Rattle.std.proofs.Common.{◌≡◌, ◌<◌, ◌∙◌, refl, sym, subst, arith, rules}
use Rattle.std.proofs.Common.{inl, inr, ◌^◌}
use Rattle.std.proofs.lemmas.Bool.{cases_eq}
use Rattle.lb_flat.specs.Programs.{program_of}
use Rattle.lb_flat.specs.Correct.{IsVerdictOf}
use Rattle.std.proofs.Common.{get_or, length}
use Rattle.lb_lanes.specs.declared.planes.Plane.{Plane}
use Rattle.lb_lanes.proofs.OnPlanes.{SetBit, some_on}
use Rattle.lb_sim.specs.Progress.{AreRunTo}
use Rattle.lb_sim.specs.declared.program.LaneProgram.{LaneProgram}
use Rattle.lb_sim.proofs.RunningQueues.{all_begin, all_judged, all_ranged, never_past}
use Rattle.lb_sim.proofs.RunningQueues.{none_goes, steps_or_takes}
use Rattle.lb_sim.proofs.batch.run_lanes.Goals as goal

pub loop-run-init : goal.loop-run-init
loop-run-init g c =
    let queue = c.args.queue.now in
    let run = c.args.run.now in
    let has = g.V.Verdicts.has c.args.verdicts.now in
    let fits : c.active.result.0 < 2 ^ 64 = search rules in
    record {
      done =
          subst
          (λ (lanes : Plane).
          AreRunTo run.program.now queue.set.now queue.members.now queue.lanes run
          c.first_traces-traces.result c.first_places-places.result lanes.0
          (length queue.members.now) has)
          (sym c.active.ensures)
          (all_begin run.program.now queue.set.now queue.members.now queue.lanes queue.few
          queue.enough queue.within run c.first_traces-traces.result c.first_places-places.result
          has (subst (λ (lanes : Plane). lanes.0 < 2 ^ 64) c.active.ensures fits) queue.some refl
          c.requires.fresh c.first_places-places.ensures.room
          c.first_traces-traces.ensures.room c.first_places-places.ensures.places
          c.first_traces-traces.ensures.within c.first_traces-traces.ensures.first);
      columns = refl;
      becomes = g.met.V.Verdicts.becomes_itself c.args.verdicts.now;
    }

pub settle-next-requires-clause-steps : goal.settle-next-requires-clause-steps
settle-next-requires-clause-steps g c =
    let limit = c.instants_of-most.ensures.limit in
    omega (arith, c.loop-run-test.true, limit, c.args.queue.now.most)

pub settle-next-requires-clause-so_far : goal.settle-next-requires-clause-so_far
settle-next-requires-clause-so_far g c =
    let queue = c.args.queue.now in
    let now = c.loop-run in
    subst
    (λ (p : LaneProgram).
    AreRunTo p queue.set.now queue.members.now queue.lanes now.run now.traces now.places
    now.left.pending.0 now.left.rest (g.V.Verdicts.has now.verdicts))
    (sym now.invariant.done.program_is) now.invariant.done

pub settle-next-requires-clause-takes : goal.settle-next-requires-clause-takes
settle-next-requires-clause-takes g c k v l right =
    let queue = c.args.queue.now in
    let now = c.loop-run in
    g.met.V.Verdicts.takes_still c.args.verdicts.now now.verdicts k v now.invariant.becomes
    (c.requires.takes k v l
    (subst
    (λ (p : LaneProgram).
    IsVerdictOf (program_of p.program.now) queue.set.now (get_or queue.members.now k 0) v)
    now.invariant.done.program_is right))

pub run_range-requires-clause-members : goal.run_range-requires-clause-members
run_range-requires-clause-members g c = c.settle-next.ensures.so_far.traces_within

pub returns-then-left-eq0-clause-judged : goal.returns-then-left-eq0-clause-judged
returns-then-left-eq0-clause-judged g c =
    let queue = c.args.queue.now in
    let p = c.args.run.now.program.now in
    let now = c.loop-run in
    let new = c.settle-next.new in
    let has = g.V.Verdicts.has new.verdicts in
    all_judged p queue.set.now queue.members.now queue.lanes queue.few queue.enough queue.within
    new.run new.traces new.places new.left.pending.0 new.left.rest has
    (subst
    (λ (q : LaneProgram).
    AreRunTo q queue.set.now queue.members.now queue.lanes new.run new.traces new.places
    new.left.pending.0 new.left.rest has)
    now.invariant.done.program_is c.settle-next.ensures.so_far)
    c.if-left-eq0.true

pub loop-run-smaller : goal.loop-run-smaller
loop-run-smaller g c =
    let queue = c.args.queue.now in
    let p = c.args.run.now.program.now in
    let now = c.loop-run in
    let mid = c.settle-next.new in
    let next = c.settle-next.result in
    let has = g.V.Verdicts.has mid.verdicts in
    let e = c.run_range.ensures in
    let so_far =
    subst
    (λ (q : LaneProgram).
    AreRunTo q queue.set.now queue.members.now queue.lanes mid.run mid.traces mid.places
    mid.left.pending.0 mid.left.rest has)
    now.invariant.done.program_is c.settle-next.ensures.so_far in
    let some : SetBit mid.left.pending.0 64 =
    some_on mid.left.pending.0 64 so_far.fits so_far.fits (omega (arith, c.if-left-eq0.false)) in
    let less : c.run_range.new.run.steps ≡ mid.run.steps → mid.left.rest < now.left.rest =
    steps_or_takes p queue.set.now queue.members.now queue.lanes queue.few queue.enough
    queue.within mid.run c.run_range.new.run mid.traces mid.places mid.left.pending.0
    now.left.rest mid.left.rest has so_far c.settle-next.ensures.go_on some
    (λ same.
    none_goes p queue.set.now queue.members.now queue.lanes queue.few queue.enough queue.within
    mid.run c.run_range.new.run mid.traces mid.places mid.left.pending.0 mid.left.rest has
    next.lanes next.until so_far c.settle-next.ensures.running e.program e.begins e.within
    e.fewer e.come same (e.rest same) (e.still same)) in
    let steps = c.settle-next.ensures.steps in
    let fewer = c.settle-next.ensures.fewer in
    let begun = e.begun in
    elim (cases_eq c.run_range.new.run.steps mid.run.steps) [
      | inl same ↦
          (let below = less same in
          omega (arith, steps, same, below, c.loop-run-test.true))
      | inr moved ↦ omega (arith, steps, fewer, begun, moved, c.loop-run-test.true)
    ]

pub loop-run-preserved : goal.loop-run-preserved
loop-run-preserved g c =
    let queue = c.args.queue.now in
    let p = c.args.run.now.program.now in
    let now = c.loop-run in
    let mid = c.settle-next.new in
    let next = c.settle-next.result in
    let has = g.V.Verdicts.has mid.verdicts in
    let e = c.run_range.ensures in
    record {
      done =
          all_ranged p queue.set.now queue.members.now queue.lanes queue.few queue.enough
          queue.within mid.run c.run_range.new.run mid.traces mid.places mid.left.pending.0
          mid.left.rest has next.lanes next.until
          (subst
          (λ (q : LaneProgram).
          AreRunTo q queue.set.now queue.members.now queue.lanes mid.run mid.traces mid.places
          mid.left.pending.0 mid.left.rest has)
          now.invariant.done.program_is c.settle-next.ensures.so_far)
          c.settle-next.ensures.running e.program e.begins e.within e.fewer e.come;
      columns = e.columns ∙ now.invariant.columns;
      becomes =
          g.met.V.Verdicts.becomes_further c.args.verdicts.now now.verdicts mid.verdicts
          now.invariant.becomes c.settle-next.ensures.becomes;
    }

pub returns-clause-judged : goal.returns-clause-judged
returns-clause-judged g c k l =
    let queue = c.args.queue.now in
    let now = c.loop-run in
    absurd
    (never_past c.args.run.now.program.now queue.set.now queue.members.now queue.lanes queue.few
    queue.enough queue.within now.run now.traces now.places now.left.pending.0 now.left.rest
    (g.V.Verdicts.has now.verdicts) now.invariant.done
    (let sum = c.instants_of-most.ensures.sum in omega (arith, sum, c.loop-run-test.false)))
