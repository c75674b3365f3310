use Rattle.std.proofs.Common.{◌<◌, ◌≤◌, length, refl, sym, ap, arith}
use Rattle.lb_sim.specs.Climbs.{unknown_count}
use Rattle.lb_sim.specs.States.{no_place}
use Rattle.lb_sim.proofs.KnownClocks.{unknown_all}
use Rattle.lb_sim.proofs.Placing.{no_place_in, placing_first, placing_next, kinds_at_end}
use Rattle.lb_sim.proofs.Placing.{shown_at_end}
use Rattle.lb_sim.proofs.emit_all.emit_each.Goals as goal

pub loop-i-init : goal.loop-i-init
loop-i-init c =
    let clocks = c.args.program.now.clocks.items in
    let none = ap unknown_count c.requires.known in
    let all = unknown_all (length clocks) in
    record {
      placing =
          placing_first c.args.program.now c.args.code.now c.args.inputs.now
          c.args.constants.now c.args.kept.now no_place (length clocks) c.args.places.now
          c.args.known.now (no_place_in c.args.code.now) refl c.requires.places c.requires.known
          c.requires.in_order;
      few = omega (arith, none, all);
    }

pub known_plane-requires-clause-room : goal.known_plane-requires-clause-room
known_plane-requires-clause-room c =
    let l = c.loop-i in
    omega (
      arith,
      c.requires.room,
      l.invariant.few,
      c.loop-i-test.true,
      l.auto.i-end,
      c.len-i-end.ensures,
    )

pub emit-requires-clause-room : goal.emit-requires-clause-room
emit-requires-clause-room c =
    let l = c.loop-i in
    omega (
      arith,
      c.requires.room,
      l.invariant.few,
      c.in_ok-present.ensures.few,
      c.loop-i-test.true,
      l.auto.i-end,
      c.len-i-end.ensures,
    )

pub loop-i-preserved : goal.loop-i-preserved
loop-i-preserved c =
    let items = c.args.program.now.equations.items in
    let l = c.loop-i in
    let x = c.index-q.result.now in
    let lt : l.i < length items =
    omega (arith, c.loop-i-test.true, l.auto.i-end, c.len-i-end.ensures) in
    let next = placing_next c.args.program.now c.args.code.now l.code c.args.inputs.now
    c.args.constants.now c.args.kept.now l.places l.known l.i l.invariant.placing
    c.requires.in_range x x (sym c.index-q.ensures) lt c.known_plane.new.code c.emit.new.code
    c.in_ok-present.present
    c.known_plane.new.known _ _ c.in_ok-holding.holding c.index-kind.result.now
    c.in_ok-present.ensures.grown c.in_ok-holding.ensures.grown c.in_ok-present.ensures.known
    c.in_ok-present.ensures.as_many c.index-kind.ensures c.in_ok-holding.ensures.within
    c.in_ok-holding.ensures.kind c.in_ok-holding.ensures.emitted c.requires.allotted in
    record {
      placing = next;
      few = omega (
        arith,
        l.invariant.few,
        c.in_ok-present.ensures.few,
        c.in_ok-holding.ensures.few,
      );
    }

pub returns-clause-few : goal.returns-clause-few
returns-clause-few c =
    let l = c.loop-i in
    omega (arith, l.invariant.few, l.auto.i-end, c.len-i-end.ensures)

pub returns-clause-kinds : goal.returns-clause-kinds
returns-clause-kinds c =
    let items = c.args.program.now.equations.items in
    let l = c.loop-i in
    let le : length items ≤ l.i =
    omega (arith, c.loop-i-test.false, l.auto.i-end, c.len-i-end.ensures) in
    kinds_at_end c.args.program.now c.args.code.now l.code c.args.inputs.now
    c.args.constants.now c.args.kept.now l.places l.known l.i l.invariant.placing
    c.requires.in_range le

pub returns-clause-shown : goal.returns-clause-shown
returns-clause-shown c =
    let items = c.args.program.now.equations.items in
    let l = c.loop-i in
    let le : length items ≤ l.i =
    omega (arith, c.loop-i-test.false, l.auto.i-end, c.len-i-end.ensures) in
    shown_at_end c.args.program.now c.args.code.now l.code c.args.inputs.now
    c.args.constants.now c.args.kept.now l.places l.known l.i l.invariant.placing
    c.requires.in_range le
