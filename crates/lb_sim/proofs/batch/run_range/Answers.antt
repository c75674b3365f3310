-- Each lane runs one more instant of its trace, until no lane takes part or another lane does.
use Rattle.std.proofs.Common.{◌≡◌, ◌<◌, ◌≤◌, ◌&&◌, ℕ, List, [], get_or, sym, ap, ◌∙◌, subst, arith}
use Rattle.std.proofs.Common.{refl, ◌+◌, true, rules}
use Rattle.lb_syntax.specs.declared.tree.Kind.{Kind}
use Rattle.lb_flat.specs.Inputs.{inputs_of}
use Rattle.lb_lanes.specs.Planes.{IsPlaneOf, on}
use Rattle.lb_lanes.specs.declared.planes.Plane.{Plane}
use Rattle.lb_sim.specs.BatchRuns.{verdict_at}
use Rattle.lb_sim.specs.InputRows.{HaveInstant, instant_in, places_of}
use Rattle.lb_sim.specs.Inputs.{inputs_row, IsAhead}
use Rattle.lb_sim.specs.LaneStates.{is_passed}
use Rattle.lb_sim.specs.Progress.{AreRowsAlike}
use Rattle.lb_sim.specs.ReadInputs.{AreAlike}
use Rattle.lb_sim.specs.declared.columns.Columns.{Columns}
use Rattle.lb_sim.specs.declared.program.LaneProgram.{LaneProgram}
use Rattle.lb_sim.proofs.Batches.{moves_on}
use Rattle.lb_sim.proofs.RunningBatches.{none_come, all_come, all_begun, have_instant}
use Rattle.lb_sim.proofs.RunningBatches.{have_instants, running_later, none_there, none_ahead}
use Rattle.lb_sim.proofs.RunningBatches.{one_within, still_ahead}
use Rattle.lb_sim.proofs.batch.run_range.Goals as goal

pub loop-t-init : goal.loop-t-init
loop-t-init c = record {
  done = none_come c.args.run.now c.args.set.now c.args.members.now;
  begun = omega arith;
  within = λ bound le ends. le;
  fewer = λ i l e. e;
  still = λ same. refl;
  columns = refl;
  ahead =
      none_ahead c.args.set.now c.args.members.now c.args.run.now.begins.items
      c.args.run.now.program.now.read.numbers.items
      c.args.inputs.now c.args.run.now.steps c.args.run.now.active.0 c.nothing-loaded.result
      c.nothing-loaded.ensures.numbers c.nothing-loaded.ensures.truths;
}

pub invariant_of-at-clause-there : goal.invariant_of-at-clause-there
invariant_of-at-clause-there c =
    let set = c.args.set.now in
    let members = c.args.members.now in
    let begins = c.args.run.now.begins.items in
    subst (λ bs. HaveInstant set members bs c.loop-t.t c.and-live.result.0)
    (sym (c.as_slice.ensures.value ∙ c.loop-t.invariant.done.begins_are))
    (have_instant set members begins c.loop-t.t c.args.next.lanes c.args.next.until
    c.requires.few
    (all_begun c.args.run.now.program.now c.args.run.now c.loop-t.run set members c.loop-t.t
    c.loop-t.invariant.done)
    (running_later set members begins c.args.run.now.steps c.args.next.lanes c.args.next.until
    c.loop-t.t c.requires.running c.loop-t.invariant.begun c.loop-t-test.true)
    c.active.result.0 c.and-live.result.0 c.and-live.ensures)

pub invariant_of-at-in-loop-t-clause-later : goal.invariant_of-at-in-loop-t-clause-later
invariant_of-at-in-loop-t-clause-later c = c.loop-t-test.true

pub invariant_of-at-in-loop-t-clause-further : goal.invariant_of-at-in-loop-t-clause-further
invariant_of-at-in-loop-t-clause-further c =
    let set = c.args.set.now in
    let members = c.args.members.now in
    let begins = c.args.run.now.begins.items in
    subst
    (λ bs. (s : ℕ) → c.loop-t.t ≤ s → s < c.args.next.until
    → HaveInstant set members bs s c.and-live.result.0)
    (sym (c.as_slice.ensures.value ∙ c.loop-t.invariant.done.begins_are))
    (have_instants set members begins c.loop-t.t c.args.next.lanes c.args.next.until
    c.requires.few
    (all_begun c.args.run.now.program.now c.args.run.now c.loop-t.run set members c.loop-t.t
    c.loop-t.invariant.done)
    (running_later set members begins c.args.run.now.steps c.args.next.lanes c.args.next.until
    c.loop-t.t c.requires.running c.loop-t.invariant.begun c.loop-t-test.true)
    c.active.result.0 c.and-live.result.0 c.and-live.ensures)

pub load_read-loaded-requires-clause-last : goal.load_read-loaded-requires-clause-last
load_read-loaded-requires-clause-last c =
    let set = c.args.set.now in
    let members = c.args.members.now in
    subst
    (λ (q : LaneProgram).
    IsAhead set members c.as_slice.result.now q.read.numbers.items c.loop-t.inputs c.loop-t.t
    c.and-live.result.0 c.loop-t.loaded)
    (sym c.loop-t.invariant.done.program_is)
    (subst
    (λ bs.
    IsAhead set members bs c.args.run.now.program.now.read.numbers.items c.loop-t.inputs
    c.loop-t.t c.and-live.result.0 c.loop-t.loaded)
    (sym (c.as_slice.ensures.value ∙ c.loop-t.invariant.done.begins_are))
    (still_ahead set members c.args.run.now.begins.items _ c.loop-t.inputs c.loop-t.t c.loop-t.t
    c.loop-t.run.active.0 c.and-live.result.0 c.loop-t.loaded (omega arith)
    (λ i l e.
    let active : on c.active.result.0 i ≡ true =
    (moves_on (on c.active.result.0 i) (on c.args.next.lanes i) (on c.and-live.result.0 i)
    (c.and-live.ensures i l) e).0 in
    ap (λ (p : Plane). on p.0 i) (sym c.active.ensures) ∙ active)
    c.loop-t.invariant.ahead))

pub step-requires-clause-shrinks : goal.step-requires-clause-shrinks
step-requires-clause-shrinks c i l e =
    let run = c.loop-t.run in
    let active : on c.active.result.0 i ≡ true =
    (moves_on (on c.active.result.0 i) (on c.args.next.lanes i) (on c.and-live.result.0 i)
    (c.and-live.ensures i l) e).0 in
    (moves_on (on run.live.0 i) _ (on run.active.0 i) (run.going i l)
    (ap (λ (p : Plane). on p.0 i) (sym c.active.ensures) ∙ active)).0

pub loop-t-preserved : goal.loop-t-preserved
loop-t-preserved c =
    let run = c.loop-t.run in
    let set = c.args.set.now in
    let members = c.args.members.now in
    let begins = c.args.run.now.begins.items in
    let lanes = c.args.next.lanes in
    let live = c.and-live.result in
    let live_is : IsPlaneOf (λ i. on run.active.0 i && on lanes i) live.0 =
    subst (λ (p : Plane). IsPlaneOf (λ i. on p.0 i && on lanes i) live.0) c.active.ensures
    c.and-live.ensures in
    let p = c.args.run.now.program.now in
    let begins_are = c.as_slice.ensures.value ∙ c.loop-t.invariant.done.begins_are in
    let kinds_are = ap (λ (x : Columns). x.kinds.items) c.loop-t.invariant.columns
    ∙ c.requires.inputs in
    let rows : (i : ℕ) → i < 64 → on live.0 i ≡ true →
    AreRowsAlike p (inputs_row c.load_read-loaded.new.self i)
    (get_or (inputs_of set (get_or members i 0)) (instant_in begins c.loop-t.t i) []) =
    λ i l e.
    subst
    (λ (q : LaneProgram).
    AreAlike (places_of 2 1 p.program.now.inputs.items) q.read.numbers.items q.read.truths
    (inputs_row c.load_read-loaded.new.self i)
    (get_or (inputs_of set (get_or members i 0)) (instant_in begins c.loop-t.t i) []))
    c.loop-t.invariant.done.program_is
    (subst
    (λ (kinds : List Kind).
    AreAlike (places_of 2 1 kinds) run.program.now.read.numbers.items run.program.now.read.truths
    (inputs_row c.load_read-loaded.new.self i)
    (get_or (inputs_of set (get_or members i 0)) (instant_in begins c.loop-t.t i) []))
    kinds_are
    (subst
    (λ bs.
    AreAlike (places_of 2 1 c.loop-t.inputs.columns.kinds.items)
    run.program.now.read.numbers.items run.program.now.read.truths
    (inputs_row c.load_read-loaded.new.self i)
    (get_or (inputs_of set (get_or members i 0)) (instant_in bs c.loop-t.t i) []))
    begins_are (c.load_read-loaded.ensures.rows i l e))) in
    record {
      done =
          all_come p c.args.run.now run c.step.new.self set members c.loop-t.t lanes
          c.args.next.until live (inputs_row c.load_read-loaded.new.self) c.requires.few
          c.loop-t.invariant.done
          (running_later set members begins c.args.run.now.steps lanes c.args.next.until
          c.loop-t.t c.requires.running c.loop-t.invariant.begun c.loop-t-test.true)
          live_is rows
          (record {
            moves = c.step.ensures.moves;
            stays = c.step.ensures.stays;
            settled = c.step.ensures.settled;
            active = c.step.ensures.active;
            live_is = c.step.ensures.live_is;
            steps = c.step.ensures.steps;
            begins = c.step.ensures.begins;
            program = c.step.ensures.program;
          });
      begun = omega (arith, c.loop-t.invariant.begun);
      within = λ bound le ends.
          one_within set members begins c.loop-t.t lanes c.args.next.until
          (running_later set members begins c.args.run.now.steps lanes c.args.next.until
          c.loop-t.t c.requires.running c.loop-t.invariant.begun c.loop-t-test.true)
          run.active.0 live.0 live_is (omega (arith, c.if-live-eq0.false)) (search rules) bound
          (λ i m l e. ends i m (c.loop-t.invariant.fewer i l e));
      fewer = λ i l e.
          c.loop-t.invariant.fewer i l
          (moves_on (on run.active.0 i) (on lanes i) (on live.0 i) (live_is i l)
          (moves_on (on live.0 i) (is_passed (verdict_at c.step.new.self i))
          (on c.step.new.self.active.0 i) (c.step.ensures.active i l) e).0).0;
      still = λ same.
          absurd
          (omega (
            arith,
            same,
            c.step.ensures.steps,
            c.loop-t.invariant.done.steps_are,
            c.loop-t.invariant.begun,
          ));
      columns = c.load_read-loaded.ensures.kinds ∙ c.loop-t.invariant.columns;
      ahead =
          subst
          (λ (q : LaneProgram).
          IsAhead set members begins q.read.numbers.items c.load_read-loaded.new.self
          (c.loop-t.t + 1) c.step.new.self.active.0 c.load_read-loaded.result)
          c.loop-t.invariant.done.program_is
          (subst
          (λ bs.
          IsAhead set members bs run.program.now.read.numbers.items
          c.load_read-loaded.new.self (c.loop-t.t + 1) c.step.new.self.active.0
          c.load_read-loaded.result)
          begins_are
          (still_ahead set members _ _ c.load_read-loaded.new.self c.loop-t.t (c.loop-t.t + 1)
          live.0 c.step.new.self.active.0 c.load_read-loaded.result (omega arith)
          (λ i l e.
          (moves_on (on live.0 i) (is_passed (verdict_at c.step.new.self i))
          (on c.step.new.self.active.0 i) (c.step.ensures.active i l) e).0)
          c.load_read-loaded.ensures.ahead));
    }

pub returns-then-live-eq0-clause-rest : goal.returns-then-live-eq0-clause-rest
returns-then-live-eq0-clause-rest c same =
    let live_is : IsPlaneOf (λ i. on c.loop-t.run.active.0 i && on c.args.next.lanes i)
    c.and-live.result.0 =
    subst
    (λ (p : Plane). IsPlaneOf (λ i. on p.0 i && on c.args.next.lanes i) c.and-live.result.0)
    c.active.ensures c.and-live.ensures in
    none_there c.loop-t.run.active.0 c.args.next.lanes c.and-live.result.0 live_is
    c.if-live-eq0.true

pub returns-clause-rest : goal.returns-clause-rest
returns-clause-rest c same =
    absurd
    (omega (
      arith,
      same,
      c.loop-t.invariant.done.steps_are,
      c.loop-t-test.false,
      c.requires.running.later,
    ))

pub returns-then-live-eq0-clause-within : goal.returns-then-live-eq0-clause-within
returns-then-live-eq0-clause-within c bound le ends =
    omega (arith, c.loop-t.invariant.done.steps_are, c.loop-t.invariant.within bound le ends)

pub returns-clause-within : goal.returns-clause-within
returns-clause-within c bound le ends =
    omega (arith, c.loop-t.invariant.done.steps_are, c.loop-t.invariant.within bound le ends)
