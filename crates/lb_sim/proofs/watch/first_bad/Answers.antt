use Rattle.std.proofs.Common.{◌<◌, length, subst, arith}
use Rattle.std.specs.List.{range_with_len}
use Rattle.std.proofs.lemmas.List.{get_or_default}
use Rattle.lb_check.specs.Verdicts.{is_bad}
use Rattle.lb_sim.proofs.Growth.{place_grown}
use Rattle.lb_sim.proofs.Watching.{IsWatching, watching_first, watching_next, watching_last}
use Rattle.lb_sim.proofs.Watching.{range_cut, range_end, range_all}
use Rattle.lb_sim.proofs.Watching.{within_grown}
use Rattle.lb_sim.proofs.watch.first_bad.Goals as goal

pub loop-i-init : goal.loop-i-init
loop-i-init c = record {
  watching = subst
      (λ is.
      IsWatching is_bad c.args.code.now c.args.code.now c.args.places.now
      (range_with_len 0 c.args.count) is c.args.above c.args.above)
      (range_all c.args.count)
      (watching_first is_bad c.args.code.now c.args.places.now (range_with_len 0 c.args.count)
      c.args.above c.requires.above);
  marked = c.requires.marked;
  few = omega arith;
}

pub bad_plane-requires-clause-place : goal.bad_plane-requires-clause-place
bad_plane-requires-clause-place c =
    place_grown _ _ _ c.loop-i.invariant.watching.grown
    (c.requires.places _ _ (omega (arith, c.requires.count, c.loop-i-test.true)))

pub bad_plane-requires-clause-room : goal.bad_plane-requires-clause-room
bad_plane-requires-clause-room c =
    omega (arith, c.requires.room, c.loop-i.invariant.few, c.loop-i-test.true)

pub joined-requires-clause-room : goal.joined-requires-clause-room
joined-requires-clause-room c =
    omega (
      arith,
      c.requires.room,
      c.loop-i.invariant.few,
      c.in_ok-here.ensures.few,
      c.loop-i-test.true,
    )

pub joined-requires-clause-plane : goal.joined-requires-clause-plane
joined-requires-clause-plane c =
    omega (arith, c.loop-i.invariant.watching.within, c.in_ok-here.ensures.grown.planes)

pub loop-i-preserved : goal.loop-i-preserved
loop-i-preserved c =
    let lt : c.loop-i.i < length c.args.places.now =
    omega (arith, c.requires.count, c.loop-i-test.true) in
    record {
      watching = watching_next is_bad _ _ _ _ _ _ _ c.loop-i.invariant.watching _ _ _
          (range_cut c.loop-i.i c.args.count c.loop-i-test.true)
          lt (get_or_default _ _ _ _ lt) _ _ _ _
          c.in_ok-here.ensures.grown c.in_ok-here.ensures.plane c.in_ok-next.ensures.grown
          c.in_ok-next.ensures.plane;
      marked = c.in_ok-next.ensures.marked;
      few = omega (
        arith,
        c.loop-i.invariant.few,
        c.in_ok-here.ensures.few,
        c.in_ok-next.ensures.few,
      );
    }

pub returns-clause-grown : goal.returns-clause-grown
returns-clause-grown c = c.loop-i.invariant.watching.grown

pub returns-clause-plane : goal.returns-clause-plane
returns-clause-plane c =
    watching_last is_bad _ _ _ _ _ _ _ c.loop-i.invariant.watching
    (range_end c.loop-i.i c.args.count c.loop-i-test.false)

pub joined-requires-clause-marked : goal.joined-requires-clause-marked
joined-requires-clause-marked c =
    within_grown _ _ _ _ c.in_ok-here.ensures.grown c.loop-i.invariant.marked

pub returns-clause-marked : goal.returns-clause-marked
returns-clause-marked c = c.loop-i.invariant.marked

pub returns-clause-few : goal.returns-clause-few
returns-clause-few c = omega (arith, c.loop-i.invariant.few, c.loop-i.auto.i-end)
