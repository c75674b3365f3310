use Rattle.std.proofs.Common.{length, refl, sym, subst}
use Rattle.std.proofs.lemmas.Option.{slice_get_read}
use Rattle.lb_flat.specs.Within.{IsClock}
use Rattle.lb_flat.specs.declared.equation.Clock.{Clock}
use Rattle.lb_sim.specs.Climbs.{IsWay}
use Rattle.lb_sim.proofs.ClockPlanes.{way_more}
use Rattle.lb_sim.proofs.clock_planes.climb_from.Goals as goal

pub loop-rest-init : goal.loop-rest-init
loop-rest-init c = record {
  in_table = c.requires.clock;
  leads = subst
      (λ way. IsWay c.args.program.now.clocks.items c.args.known.now c.args.clock way c.args.clock)
      (sym c.new-waiting.ensures.items) refl;
}

pub loop-rest-preserved : goal.loop-rest-preserved
loop-rest-preserved c =
    let clocks = c.args.program.now.clocks.items in
    let known = c.args.known.now in
    let id = c.in-Some.id in
    let t = c.index.result.now in
    let h = c.loop-rest.invariant in
    let lt = h.in_table id c.in-Some.is in
    let at = slice_get_read clocks (length clocks) id.0 t refl lt c.index.ensures in
    let way = subst (IsWay clocks known c.args.clock c.loop-rest.waiting.items) c.in-Some.is
    h.leads in
    let more = way_more clocks known id t c.args.clock c.loop-rest.waiting.items way
    c.in_default-known.is at in
    record {
      in_table =
          subst (λ (r : Clock). IsClock clocks r.parent) (sym c.index.ensures)
          (c.requires.in_range.clocks id.0 t lt).parent;
      leads =
          subst (λ w. IsWay clocks known c.args.clock w t.parent)
          (sym c.in_ok-push.ensures.items) more;
    }
